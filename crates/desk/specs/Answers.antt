-- A receipt is held exactly where the engine accepts it.
use Rattle.std.specs.Prelude.{Ok, Err, Result}
use Rattle.refusal.specs.Judging.{Judgement}
use Rattle.desk.specs.declared.desk.NotHeld.{NotHeld}

abbrev pub held_answer : Judgement → Result (Unit {0}) NotHeld
held_answer (Ok u) = Ok tt
held_answer (Err e) = Err (record {})
