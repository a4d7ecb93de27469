-- What a call's result says, as an answer.
use Rattle.std.specs.Prelude.{ℕ, List, Some, None, Ok, Err, Option, Result}
use Rattle.refusal.specs.declared.Refusal.{Refusal}
use Rattle.model.specs.declared.job.State.{State}
use Rattle.model.specs.Calls.{Owed, Answer, refused, done, ran, saw, told}
use Rattle.engine.specs.declared.receipt.Receipt.{Receipt}
use Rattle.engine.specs.declared.receipt.Outcome.{Outcome}
use Rattle.engine.specs.declared.receipt.Returned.{Returned}

abbrev pub done_answer : Result (Unit {0}) Refusal → Answer
done_answer (Ok u) = done
done_answer (Err e) = refused e

-- What a receipt says is owed.
abbrev pub owed_of : Option Receipt → Option Owed
owed_of None = None
owed_of (Some r) = Some (record { job = r.job; number = r.number })

abbrev pub ran_answer : Result Outcome Refusal → Answer
ran_answer (Ok o) = ran o.run (owed_of o.receipt)
ran_answer (Err e) = refused e

abbrev pub returned_answer : Result (Unit {0}) Returned → Answer
returned_answer (Ok u) = done
returned_answer (Err e) = refused e.refusal

abbrev pub told_answer : Result State Refusal → Answer
told_answer (Ok s) = told s
told_answer (Err e) = refused e

-- The state is told by what the buffer then holds.
abbrev pub state_answer : Result (Unit {0}) Refusal → State → Answer
state_answer (Ok u) s = told s
state_answer (Err e) s = refused e

-- What a look saw is what the buffer then holds.
abbrev pub look_answer : Result (Unit {0}) Refusal → List ℕ → Answer
look_answer (Ok u) bs = saw bs
look_answer (Err e) bs = refused e
