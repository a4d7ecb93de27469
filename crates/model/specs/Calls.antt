-- The calls of an engine, and what they answer.
use Rattle.std.specs.Prelude.{ℕ, Bool, true, false, ◌&&◌, List, Option}
use Rattle.refusal.specs.declared.Refusal.{Refusal}
use Rattle.runs.specs.declared.Ran.{Ran}
use Rattle.pages.specs.Held.{Table}
use Rattle.model.specs.declared.job.Registers.{Registers}
use Rattle.model.specs.declared.job.State.{State}

-- What is asked of a job that is there: a load of bytes at an address, a run with a limit, a reply of eight registers to the system call
-- with a number, the abandoning of one, a look at so many bytes from an address on, its state, its closing.
pub data Ask : Type 0 where
  loads : ℕ → List ℕ → Ask
  runs : ℕ → Ask
  replies : ℕ → Registers → Ask
  abandons : ℕ → Ask
  looks : ℕ → ℕ → Ask
  states : Ask
  closes : Ask

-- A call names a job: it opens it with a table and a starting address, or asks something of it.
pub data Call : Type 0 where
  opens : ℕ → Table → ℕ → Call
  asks : ℕ → Ask → Call

abbrev pub names : Call → ℕ
names (opens j t start) = j
names (asks j x) = j

-- What is owed for a system call: the job, and the number of the call among its own.
pub record Owed : Type 0 where
  pub job : ℕ
  pub number : ℕ

pub data Answer : Type 0 where
  refused : Refusal → Answer
  done : Answer
  ran : Ran → Option Owed → Answer
  saw : List ℕ → Answer
  told : State → Answer

abbrev pub accepted : Answer → Bool
accepted (refused e) = false
accepted done = true
accepted (ran r o) = true
accepted (saw bs) = true
accepted (told s) = true

-- Whether a call that is accepted ends its job.
abbrev pub closing : Ask → Bool
closing (loads a bs) = false
closing (runs limit) = false
closing (replies number r) = false
closing (abandons number) = true
closing (looks a count) = false
closing states = false
closing closes = true

abbrev pub ends : Call → Answer → Bool
ends (opens j t start) a = false
ends (asks j x) a = closing x && accepted a
