use Rattle.std.proofs.Common.{Option, subst}
use Rattle.model.specs.Worlds.{world_of, jobs_of}
use Rattle.model.specs.Calls.{Owed}
use Rattle.model.proofs.Answers.{no_mem}
use Rattle.engine.specs.declared.receipt.Receipt.{Receipt}
use Rattle.engine.specs.Answers.{owed_of}
use Rattle.engine.specs.Receipts.{Acceptable}
use Rattle.engine.proofs.Receipts.{abandon_ends}
use Rattle.launch.proofs.abandon_owed.Goals as goal

pub unwrap-requires : goal.unwrap-requires
unwrap-requires c =
    let o : Owed = record { job = c.in-Some.owed.job; number = c.in-Some.owed.number } in
    abandon_ends o (world_of c.args.engine.now.jobs no_mem) _ c.abandon.result
    (subst (λ (r : Option Receipt). Acceptable (owed_of r) (jobs_of c.args.engine.now.jobs)) c.in-Some.is c.requires)
    (c.abandon.ensures.world no_mem)
