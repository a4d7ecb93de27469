-- A run: step after step, up to a limit or a stop.
use Rattle.std.specs.Prelude.{ℕ, zero, suc, ◌+◌, Some, None, Ok, Err, Option, Result}
use Rattle.registers.specs.declared.processor.Processor.{Processor}
use Rattle.space.specs.Cells.{Cells}
use Rattle.stop.specs.declared.Fault.{Fault}
use Rattle.stop.specs.declared.Trap.{Trap}
use Rattle.stop.specs.declared.Trap.TheVariants.{Halt, SystemCall, Breakpoint}
use Rattle.stop.specs.declared.Stop.{Stop}
use Rattle.stop.specs.declared.Stop.TheVariants.{Limit, Trapped, Faulted}
use Rattle.processor.specs.declared.Done.{Done}
use Rattle.processor.specs.Steps.{Stepped, step_of}
use Rattle.runs.specs.declared.Ran.{Ran}

-- What a run answers, with the processor and the cells then.
pub record Over : Type 0 where
  pub answer : Ran
  pub cpu : Processor
  pub cells : Cells

abbrev pub ran : Ran → Processor → Cells → Over
ran r c s = record { answer = r; cpu = c; cells = s }

abbrev pub over : Stop → ℕ → ℕ → Processor → Cells → Over
over e n t c s = ran (record { steps = n; time = t; stop = e }) c s

-- The rest of a run, after so many steps and nanoseconds.
abbrev pub Rest : Type 0
Rest = ℕ → ℕ → Processor → Cells → Over

abbrev pub on_trap : Option Trap → ℕ → ℕ → Rest → Processor → Cells → Over
on_trap None n t rest c s = rest n t c s
on_trap (Some e) n t rest c s = over (Trapped e) n t c s

abbrev pub on_answer : Result Done Fault → ℕ → ℕ → Rest → Processor → Cells → Over
on_answer (Err e) n t rest c s = over (Faulted e) n t c s
on_answer (Ok d) n t rest c s = on_trap d.trap (n + 1) (t + d.time) rest c s

abbrev pub on_step : Stepped → ℕ → ℕ → Rest → Over
on_step y n t rest = on_answer y.answer n t rest y.cpu y.cells

-- At most `left` steps more, after n steps of t nanoseconds.
abbrev pub run_of : (left n t : ℕ) → Processor → Cells → Over
run_of zero n t c s = over Limit n t c s
run_of (suc left) n t c s = on_step (step_of c s) n t (run_of left)

-- The system calls of a run: it ends at the first.
abbrev pub calls_by : Trap → ℕ
calls_by Halt = 0
calls_by SystemCall = 1
calls_by Breakpoint = 0

abbrev pub calls_in : Stop → ℕ
calls_in Limit = 0
calls_in (Trapped e) = calls_by e
calls_in (Faulted e) = 0
