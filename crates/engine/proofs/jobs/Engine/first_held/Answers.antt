use Rattle.std.proofs.Common.{rules, tests}
use Rattle.refusal.proofs.Searches.{found}
use Rattle.model.specs.Worlds.{jobs_of, held_at}
use Rattle.engine.proofs.jobs.Engine.first_held.Goals as goal

pub returns : goal.returns
returns g c =
    found (held_at (jobs_of c.args.self.now.jobs) (g.M.Memory.mem c.args.memory.now).takes c.args.job c.args.table.now) _ _ _ _ c.find.ensures.ran
    (λ x b q k. search (rules, tests))
