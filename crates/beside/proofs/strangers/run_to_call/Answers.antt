use Rattle.model.specs.Worlds.{World, world_of}
use Rattle.engine.specs.Answers.{owed_of}
use Rattle.engine.proofs.Receipts.{ran_says, ran_acceptable}
use Rattle.beside.proofs.strangers.run_to_call.Goals as goal

pub returns : goal.returns
returns g c =
    let w : World = world_of c.args.engine.now.jobs (g.M.Memory.mem c.args.memory.now) in
    let v : World = world_of c.run.new.self.jobs (g.M.Memory.mem c.run.new.memory) in
    ran_acceptable 0 w v _ _ (ran_says 0 9 w v _ (owed_of c.in_ok-receipt.field-0.receipt) c.in_ok-receipt.ensures)
