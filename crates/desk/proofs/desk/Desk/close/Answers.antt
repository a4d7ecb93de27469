use Rattle.model.specs.Worlds.{world_of}
use Rattle.desk.proofs.Keeping.{close_keeps}
use Rattle.desk.proofs.desk.Desk.close.Goals as goal
use Rattle.model.proofs.Answers.{no_mem}

pub invariant_of-self : goal.invariant_of-self
invariant_of-self c =
    record { kept = λ j. close_keeps (world_of c.args.self.now.engine.jobs no_mem) (world_of c.close.new.self.jobs no_mem) _ c.args.job (c.close.ensures no_mem) j _ (c.args.self.now.kept j) }
