use Rattle.model.specs.Worlds.{world_of}
use Rattle.desk.proofs.Keeping.{open_keeps}
use Rattle.desk.proofs.desk.Desk.open.Goals as goal

pub invariant_of-self : goal.invariant_of-self
invariant_of-self g c = record {
  kept = λ j. open_keeps (world_of c.args.self.now.engine.jobs (g.M.Memory.mem c.args.memory.now)) (world_of c.open.new.self.jobs (g.M.Memory.mem c.open.new.memory)) _
      c.args.job c.args.table c.args.start c.open.ensures j _ (c.args.self.now.kept j);
}
