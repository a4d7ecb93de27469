-- A job's record, once the grounds of a call are judged.
use Rattle.std.specs.Prelude.{Ok, Err, Result}
use Rattle.refusal.specs.declared.Refusal.{Refusal}
use Rattle.refusal.specs.Judging.{Judgement}
use Rattle.model.specs.declared.job.Job.{Job}
use Rattle.engine.specs.declared.receipt.Redeemed.{Redeemed}
use Rattle.engine.specs.declared.receipt.Returned.{Returned}

-- The record, unless the grounds refuse it.
abbrev pub or_refused : Judgement → Job → Result Job Refusal
or_refused (Ok u) b = Ok b
or_refused (Err e) b = Err e

abbrev pub record_or : (Job → Judgement) → Job → Result Job Refusal
record_or judge b = or_refused (judge b) b

-- The record of a receipt that was taken.
abbrev pub record_in : Result Redeemed Returned → Result Job Refusal
record_in (Ok r) = Ok r.record
record_in (Err e) = Err e.refusal
