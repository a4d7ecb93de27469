use Rattle.model.specs.Calls.{Owed}
use Rattle.model.specs.Worlds.{world_of}
use Rattle.model.proofs.Answers.{no_mem}
use Rattle.engine.proofs.Receipts.{abandon_ends}
use Rattle.beside.proofs.strangers.abandon_fitting.Goals as goal

pub unwrap-requires : goal.unwrap-requires
unwrap-requires c =
    let o : Owed = record { job = c.args.owed.job; number = c.args.owed.number } in
    abandon_ends o (world_of c.args.engine.now.jobs no_mem) _ c.abandon.result c.requires (c.abandon.ensures.world no_mem)
