-- A job's record.
use Rattle.std.specs.Prelude.{ℕ, ◌+◌, Bool, true, false, [], ◌∷◌, replicate, slice_index_or}
use Rattle.registers.specs.declared.processor.Processor.{Processor}
use Rattle.registers.specs.declared.bank.Bank.{Bank}
use Rattle.registers.specs.Processors.{reset_at, bank_of, with_bank}
use Rattle.stop.specs.declared.Trap.{Trap}
use Rattle.stop.specs.declared.Trap.TheVariants.{Halt, SystemCall, Breakpoint}
use Rattle.stop.specs.declared.Stop.{Stop}
use Rattle.stop.specs.declared.Stop.TheVariants.{Limit, Trapped, Faulted}
use Rattle.runs.specs.declared.Ran.{Ran}
use Rattle.runs.specs.Runs.{calls_in}
use Rattle.pages.specs.Held.{Table}
use Rattle.model.specs.declared.job.Job.{Job}
use Rattle.model.specs.declared.job.Registers.{Registers}
use Rattle.model.specs.declared.job.State.{State}
use Rattle.model.specs.declared.job.Status.{Status}
use Rattle.model.specs.declared.job.Status.TheVariants.{Closed, Ready, Waiting, Ended}

-- A job that is not open: one fixed record, whose table gives no access.
abbrev pub closed_job : Job
closed_job = record { processor = reset_at 0; table = replicate 15 0; steps = 0; time = 0; calls = 0; status = Closed }

-- A job as it is opened.
abbrev pub opened_job : Table → ℕ → Job
opened_job t start = record { processor = reset_at start; table = t; steps = 0; time = 0; calls = 0; status = Ready }

abbrev pub is_open : Status → Bool
is_open Closed = false
is_open Ready = true
is_open Waiting = true
is_open Ended = true

abbrev pub is_waiting : Status → Bool
is_waiting Closed = false
is_waiting Ready = false
is_waiting Waiting = true
is_waiting Ended = false

abbrev pub is_ended : Status → Bool
is_ended Closed = false
is_ended Ready = false
is_ended Waiting = false
is_ended Ended = true

-- What a stop makes of the job: at the limit and at a breakpoint it may go on, a system call waits for its reply, and every other stop ends it.
abbrev pub status_after_trap : Trap → Status
status_after_trap Halt = Ended
status_after_trap SystemCall = Waiting
status_after_trap Breakpoint = Ready

abbrev pub status_after : Stop → Status
status_after Limit = Ready
status_after (Trapped e) = status_after_trap e
status_after (Faulted e) = Ended

-- The same by the numbers of the stops: 2 and 5 to 8 end the job, 3 makes it wait, 1 and 4 leave it ready.
abbrev pub status_by_number : ℕ → Status
status_by_number n = slice_index_or (Closed ∷ Ready ∷ Ended ∷ Waiting ∷ Ready ∷ Ended ∷ Ended ∷ Ended ∷ Ended ∷ []) n Closed

-- A job after a run.
abbrev pub ran_job : Job → Ran → Processor → Job
ran_job b r c =
    record {
      processor = c;
      table = b.table;
      steps = b.steps + r.steps;
      time = b.time + r.time;
      calls = b.calls + calls_in r.stop;
      status = status_after r.stop;
    }

abbrev pub state_of : Job → State
state_of b = record { processor = b.processor; steps = b.steps; time = b.time; calls = b.calls; status = b.status }

-- The eight registers of the bank in use, with its flags as they were: a reply.
abbrev pub with_registers : Bank → Registers → Bank
with_registers k r = record { a = r.a; b = r.b; c = r.c; d = r.d; e = r.e; h = r.h; l = r.l; x = r.x; flags = k.flags }

abbrev pub replied_job : Job → Registers → Job
replied_job b r =
    record {
      processor = with_bank b.processor (with_registers (bank_of b.processor) r);
      table = b.table;
      steps = b.steps;
      time = b.time;
      calls = b.calls;
      status = Ready;
    }
