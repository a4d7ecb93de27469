-- What a call does to the job that it names: an act depends on the job's record and space alone.
use Rattle.std.specs.Prelude.{ℕ, ◌+◌, not, ◌&&◌, [], ◌∷◌, Some, None, Ok, Err, Option, ◌==◌, nat_lt}
use Rattle.refusal.specs.declared.Ground.TheVariants.{NoSuchJob, NotOpen, JobWaiting, JobEnded, TooManySteps, NotOwed}
use Rattle.refusal.specs.Judging.{Judgement, when, first}
use Rattle.stop.specs.declared.Trap.{Trap}
use Rattle.stop.specs.declared.Trap.TheVariants.{Halt, SystemCall, Breakpoint}
use Rattle.stop.specs.declared.Stop.{Stop}
use Rattle.stop.specs.declared.Stop.TheVariants.{Limit, Trapped, Faulted}
use Rattle.space.specs.Cells.{Cells}
use Rattle.runs.specs.Runs.{Over, run_of}
use Rattle.pages.specs.Held.{bytes_of}
use Rattle.pages.specs.Loads.{judge_load, laid}
use Rattle.pages.specs.Looks.{judge_look, seen}
use Rattle.model.specs.declared.job.Job.{Job}
use Rattle.model.specs.Jobs.{closed_job, is_open, is_waiting, is_ended, ran_job, replied_job, state_of}
use Rattle.model.specs.Calls.{Ask, loads, runs, replies, abandons, looks, states, closes, Owed, Answer, refused, done, ran, saw, told}

-- What an act leaves: the job's record, the bytes that its addresses hold, and the answer.
pub record Left : Type 0 where
  pub job : Job
  pub bytes : ℕ → ℕ
  pub answer : Answer

abbrev pub Act : Type 0
Act = Job → Cells → Left

-- An act that only answers.
abbrev pub says : Answer → Act
says a b s = record { job = b; bytes = bytes_of s; answer = a }

-- The grounds that look at the job's number and status.
abbrev pub no_such_job : ℕ → Judgement
no_such_job j = when (nat_lt 7 j) NoSuchJob

abbrev pub not_open : Job → Judgement
not_open b = when (not (is_open b.status)) NotOpen

abbrev pub waits : Job → Judgement
waits b = when (is_waiting b.status) JobWaiting

abbrev pub ended : Job → Judgement
ended b = when (is_ended b.status) JobEnded

-- The steps so far and the limit pass 4,294,967,295.
abbrev pub too_many : Job → ℕ → Judgement
too_many b limit = when (nat_lt 4294967295 (b.steps + limit)) TooManySteps

-- The job is not waiting, or the receipt's number is not that of its latest system call.
abbrev pub not_owed : Job → ℕ → Judgement
not_owed b number = when (not (is_waiting b.status && b.calls == number)) NotOwed

-- The grounds of each call, in the order of judging. State has the first two alone.
abbrev pub judge_open_job : ℕ → Job → Judgement
judge_open_job j b = first (no_such_job j ∷ not_open b ∷ [])

abbrev pub judge_run : ℕ → ℕ → Job → Judgement
judge_run j limit b = first (no_such_job j ∷ not_open b ∷ waits b ∷ ended b ∷ too_many b limit ∷ [])

abbrev pub judge_receipt : ℕ → ℕ → Job → Judgement
judge_receipt j number b = first (no_such_job j ∷ not_open b ∷ not_owed b number ∷ [])

abbrev pub judge_close : ℕ → Job → Judgement
judge_close j b = first (no_such_job j ∷ not_open b ∷ waits b ∷ [])

abbrev pub judge_ask : ℕ → Ask → Job → Cells → Judgement
judge_ask j (loads a bs) b s = first (no_such_job j ∷ not_open b ∷ judge_load a bs s ∷ [])
judge_ask j (runs limit) b s = judge_run j limit b
judge_ask j (replies number r) b s = judge_receipt j number b
judge_ask j (abandons number) b s = judge_receipt j number b
judge_ask j (looks a count) b s = first (no_such_job j ∷ not_open b ∷ judge_look a count s ∷ [])
judge_ask j states b s = judge_open_job j b
judge_ask j closes b s = judge_close j b

-- A system call is owed a reply: the receipt has its number, counted since the opening with this call in it.
abbrev pub owed_by_trap : Trap → ℕ → ℕ → Option Owed
owed_by_trap Halt j number = None
owed_by_trap SystemCall j number = Some (record { job = j; number = number })
owed_by_trap Breakpoint j number = None

abbrev pub owed_by : Stop → ℕ → ℕ → Option Owed
owed_by Limit j number = None
owed_by (Trapped e) j number = owed_by_trap e j number
owed_by (Faulted e) j number = None

abbrev pub ran_left : ℕ → Job → Over → Left
ran_left j b o =
    record {
      job = ran_job b o.answer o.cpu;
      bytes = bytes_of o.cells;
      answer = ran o.answer (owed_by o.answer.stop j (ran_job b o.answer o.cpu).calls);
    }

-- What each call does once it is accepted.
abbrev pub effect_of : ℕ → Ask → Act
effect_of j (loads a bs) b s = record { job = b; bytes = laid a bs (bytes_of s); answer = done }
effect_of j (runs limit) b s = ran_left j b (run_of limit 0 0 b.processor s)
effect_of j (replies number r) b s = says done (replied_job b r) s
effect_of j (abandons number) b s = says done closed_job s
effect_of j (looks a count) b s = says (saw (seen count a s)) b s
effect_of j states b s = says (told (state_of b)) b s
effect_of j closes b s = says done closed_job s

abbrev pub unless : Judgement → Act → Act
unless (Err r) f b s = says (refused r) b s
unless (Ok u) f b s = f b s

abbrev pub act_of : ℕ → Ask → Act
act_of j x b s = unless (judge_ask j x b s) (effect_of j x) b s
