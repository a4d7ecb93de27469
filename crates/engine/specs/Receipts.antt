-- A receipt that is accepted.
use Rattle.std.specs.Prelude.{◌≡◌, ℕ, Some, None, Ok, Option}
use Rattle.model.specs.declared.job.Job.{Job}
use Rattle.model.specs.Calls.{Owed}
use Rattle.model.specs.Acts.{judge_receipt}

-- A reply with what is owed, or its abandoning, is accepted. It is said of what is owed and of an engine's jobs, so the type of neither holds it.
abbrev pub Acceptable : Option Owed → (ℕ → Job) → Type 0
Acceptable None jobs = Unit {0}
Acceptable (Some o) jobs = judge_receipt o.job o.number (jobs o.job) ≡ Ok tt
