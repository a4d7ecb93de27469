-- Laws of runs and of steps, without a word of how a run is computed.
use Rattle.std.specs.Prelude.{◌≡◌, ℕ, ◌+◌, ◌<◌, ◌≤◌, Some, None, Ok, Err}
use Rattle.registers.specs.declared.processor.Processor.{Processor}
use Rattle.registers.specs.Processors.{with_p}
use Rattle.space.specs.Cells.{Cells}
use Rattle.stop.specs.declared.Fault.{Fault}
use Rattle.stop.specs.declared.Trap.{Trap}
use Rattle.stop.specs.declared.Stop.TheVariants.{Limit, Trapped, Faulted}
use Rattle.times.specs.Times.{time_of}
use Rattle.processor.specs.declared.Done.{Done}
use Rattle.processor.specs.declared.effects.Carried.{Carried}
use Rattle.decode.specs.declared.instruction.Instruction.{Instruction}
use Rattle.processor.specs.declared.fetching.Fetched.{Fetched}
use Rattle.processor.specs.Fetches.{fetch_of, operand_of}
use Rattle.processor.specs.Effects.{effect_of}
use Rattle.processor.specs.Steps.{step_of}
use Rattle.runs.specs.Runs.{Over, over}

-- n steps, none of which stops, lead in t nanoseconds from the state c, s to another.
pub data Went (c : Processor) (s : Cells) : ℕ → ℕ → Processor → Cells → Type 0 where
  none : Went c s 0 0 c s
  more : {n t : ℕ} {c' : Processor} {s' : Cells} (d : Done) → Went c s n t c' s' → (step_of c' s').answer ≡ Ok d → d.trap ≡ None
      → Went c s (n + 1) (t + d.time) (step_of c' s').cpu (step_of c' s').cells

-- How a run may end: at the limit, after exactly that many steps, none of which stops;
-- by a step that traps, which counts with its time; by a step that faults, which counts for nothing.
pub data Ends (limit : ℕ) (c : Processor) (s : Cells) : Over → Type 0 where
  at_limit : {t : ℕ} {c' : Processor} {s' : Cells} → Went c s limit t c' s' → Ends limit c s (over Limit limit t c' s')
  by_trap : {n t : ℕ} {c' : Processor} {s' : Cells} (d : Done) (e : Trap) → n < limit → Went c s n t c' s' → (step_of c' s').answer ≡ Ok d
      → d.trap ≡ Some e → Ends limit c s (over (Trapped e) (n + 1) (t + d.time) (step_of c' s').cpu (step_of c' s').cells)
  by_fault : {n t : ℕ} {c' : Processor} {s' : Cells} (e : Fault) → n < limit → Went c s n t c' s' → (step_of c' s').answer ≡ Err e
      → Ends limit c s (over (Faulted e) n t (step_of c' s').cpu (step_of c' s').cells)

-- That many steps can be made from here, none of which stops.
pub record Unstopped (n : ℕ) (c : Processor) (s : Cells) : Type 0 where
  pub time : ℕ
  pub cpu : Processor
  pub cells : Cells
  pub went : Went c s n time cpu cells

-- A run ends in one of the three ways, and there is no other end for it. It stops at the limit exactly when
-- so many steps can be made, none of which stops, and then it has made them all.
pub record RunLaws (limit : ℕ) (c : Processor) (s : Cells) (o : Over) : Type 0 where
  pub ends : Ends limit c s o
  pub only : (o' : Over) → Ends limit c s o' → o' ≡ o
  pub within : o.answer.steps ≤ limit
  pub limited : o.answer.stop ≡ Limit → (o.answer.steps ≡ limit) × Unstopped limit c s
  pub unstopped : Unstopped limit c s → (o.answer.steps ≡ limit) × (o.answer.stop ≡ Limit)

-- The time of a step that counts is that of the fetched instruction and of its course.
pub record Charged (c : Processor) (s : Cells) (d : Done) : Type 0 where
  pub fetched : Fetched Instruction
  pub operand : Fetched ℕ
  pub carried : Carried
  pub at_p : fetch_of s c.p ≡ Ok fetched
  pub after_op : operand_of fetched.value s fetched.next ≡ Ok operand
  pub carried_out_is : (effect_of fetched.value operand.value (with_p c operand.next) s).answer ≡ Ok carried
  pub time : d.time ≡ time_of fetched.value carried.course
  pub trap : d.trap ≡ carried.trap

pub record StepLaws : Type 0 where
  pub charged : (c : Processor) (s : Cells) (d : Done) → (step_of c s).answer ≡ Ok d → Charged c s d
  -- A step that faults leaves P at its first byte.
  pub faulted : (c : Processor) (s : Cells) (e : Fault) → (step_of c s).answer ≡ Err e → (step_of c s).cpu.p ≡ c.p
