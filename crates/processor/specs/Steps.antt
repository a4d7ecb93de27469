-- One step: an instruction with its selecting byte, if any, fetched and carried out, or a fault.
use Rattle.std.specs.Prelude.{ℕ, Ok, Err, Result}
use Rattle.registers.specs.declared.processor.Processor.{Processor}
use Rattle.registers.specs.Processors.{with_p}
use Rattle.space.specs.Cells.{Cells}
use Rattle.stop.specs.declared.Fault.{Fault}
use Rattle.decode.specs.declared.instruction.Instruction.{Instruction}
use Rattle.times.specs.Times.{time_of}
use Rattle.processor.specs.declared.Done.{Done}
use Rattle.processor.specs.declared.effects.Carried.{Carried}
use Rattle.processor.specs.declared.fetching.Fetched.{Fetched}
use Rattle.processor.specs.Fetches.{fetch_of, operand_of}
use Rattle.processor.specs.Effects.{Effect, effect_of}

-- What a step answers, with the processor and the cells then.
pub record Stepped : Type 0 where
  pub answer : Result Done Fault
  pub cpu : Processor
  pub cells : Cells

abbrev pub stepped : Result Done Fault → Processor → Cells → Stepped
stepped x c s = record { answer = x; cpu = c; cells = s }

-- A step that counts has its time from the instruction and its course. A fault leaves P at the first byte.
abbrev pub settled : Result Carried Fault → Instruction → ℕ → Processor → Cells → Stepped
settled (Ok d) x at c s = stepped (Ok (record { time = time_of x d.course; trap = d.trap })) c s
settled (Err e) x at c s = stepped (Err e) (with_p c at) s

abbrev pub carried_out : Result (Fetched ℕ) Fault → Instruction → Processor → Cells → Stepped
carried_out (Err e) x c s = stepped (Err e) c s
carried_out (Ok o) x c s =
    let y : Effect = effect_of x o.value (with_p c o.next) s in
    settled y.answer x c.p y.cpu y.cells

abbrev pub decoded : Result (Fetched Instruction) Fault → Processor → Cells → Stepped
decoded (Err e) c s = stepped (Err e) c s
decoded (Ok f) c s = carried_out (operand_of f.value s f.next) f.value c s

abbrev pub step_of : Processor → Cells → Stepped
step_of c s = decoded (fetch_of s c.p) c s
