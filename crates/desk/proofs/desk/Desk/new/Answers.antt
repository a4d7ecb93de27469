use Rattle.std.proofs.Common.{ap}
use Rattle.model.specs.Worlds.{World}
use Rattle.desk.proofs.Keeping.{new_keeps}
use Rattle.desk.proofs.desk.Desk.new.Goals as goal
use Rattle.model.proofs.Answers.{no_mem}

pub invariant_of-result : goal.invariant_of-result
invariant_of-result c = record { kept = new_keeps _ c.none.result.receipts (ap (λ (w : World). w.jobs) (c.new.ensures.world no_mem)) c.none.ensures }
