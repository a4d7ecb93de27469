-- What a desk holds for a job: the receipt of its latest system call while it waits, else nothing.
use Rattle.std.specs.Prelude.{ℕ, Bool, cond, not, ◌&&◌, List, Some, None, Ok, Err, Option, Result, ◌==◌, slice_index_or}
use Rattle.refusal.specs.declared.Refusal.{Refusal}
use Rattle.runs.specs.declared.Ran.{Ran}
use Rattle.model.specs.declared.job.Job.{Job}
use Rattle.model.specs.Jobs.{closed_job, is_waiting}
use Rattle.model.specs.Calls.{Owed, Answer, refused, ran}
use Rattle.engine.specs.declared.receipt.Receipt.{Receipt}
use Rattle.engine.specs.Answers.{owed_of}

-- Whether this is what the job with the number `j` and this record is owed.
abbrev pub owed_to : ℕ → Job → Option Receipt → Bool
owed_to j b None = not (is_waiting b.status)
owed_to j b (Some r) = is_waiting b.status && (r.job == j && r.number == b.calls)

-- What the receipt in a job's place says is owed.
abbrev pub owed_at : List (Option Receipt) → ℕ → Option Owed
owed_at rs j = owed_of (slice_index_or rs j None)

-- What is owed to a job, by the number of its system call.
abbrev pub owed_as : ℕ → Option ℕ → Option Owed
owed_as j None = None
owed_as j (Some n) = Some (record { job = j; number = n })

-- A run's answer, with what is held for its job then.
abbrev pub desk_answer : Result Ran Refusal → Option Owed → Answer
desk_answer (Ok r) o = ran r o
desk_answer (Err e) o = refused e

-- A job once what it is owed is abandoned.
abbrev pub released : Job → Job
released b = cond (is_waiting b.status) closed_job b
