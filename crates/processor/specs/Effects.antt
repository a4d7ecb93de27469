-- What an instruction does to the processor and the cells once its bytes are fetched.
use Rattle.std.specs.Prelude.{ℕ, ◌%◌, Bool, true, false, cond, Some, None, Ok, Err, Result, ◌==◌}
use Rattle.registers.specs.declared.bank.Bank.{Bank}
use Rattle.registers.specs.declared.bank.Register.{Register}
use Rattle.registers.specs.declared.bank.Pair.{Pair}
use Rattle.registers.specs.declared.bank.Pair.TheVariants.{HL}
use Rattle.registers.specs.declared.stack.Stack.{Stack}
use Rattle.registers.specs.declared.processor.Processor.{Processor}
use Rattle.registers.specs.declared.processor.Mode.TheVariants.{Alpha, Beta}
use Rattle.registers.specs.Banks.{value_in, with_value, pair_in, with_pair, holds_of, with_flags, with_carry}
use Rattle.registers.specs.Stacks.{pushed, popped, on_top}
use Rattle.registers.specs.Processors.{bank_of, with_bank, with_p, with_stack, with_interrupts, with_mode}
use Rattle.alu.specs.declared.Operation.{Operation}
use Rattle.alu.specs.declared.Operation.TheVariants.{AddCarry, SubtractBorrow}
use Rattle.alu.specs.declared.Outcome.{Outcome}
use Rattle.alu.specs.declared.Shift.{Shift}
use Rattle.alu.specs.Operations.{result_of, shifted_of}
use Rattle.space.specs.Cells.{Cells, read_of, allow_of, store_of}
use Rattle.stop.specs.declared.Fault.{Fault}
use Rattle.stop.specs.declared.Trap.{Trap}
use Rattle.stop.specs.declared.Trap.TheVariants as trap
use Rattle.decode.specs.declared.instruction.Source.{Source}
use Rattle.decode.specs.declared.instruction.Source.TheVariants as from
use Rattle.decode.specs.declared.instruction.Instruction.{Instruction}
use Rattle.decode.specs.declared.instruction.Instruction.TheVariants as i
use Rattle.block.specs.declared.transfers.Transfer.{Transfer}
use Rattle.block.specs.declared.transfers.Block.{Block}
use Rattle.block.specs.declared.transfers.Block.TheVariants.{Forward, Backward, Convert}
use Rattle.block.specs.Transfers.{Moved, block_of}
use Rattle.block.specs.Fields.{Worked, field_of, width_of}
use Rattle.times.specs.declared.Course.{Course}
use Rattle.processor.specs.declared.effects.Carried.{Carried}

-- What was done or why not, with the processor and the cells then.
pub record Effect : Type 0 where
  pub answer : Result Carried Fault
  pub cpu : Processor
  pub cells : Cells

abbrev pub effect : Result Carried Fault → Processor → Cells → Effect
effect x c s = record { answer = x; cpu = c; cells = s }

-- The course of an instruction whose time depends on nothing that happened, or that was not taken.
abbrev pub plain : Course
plain = record { taken = false; elements = 0; matched = false; unmarked = false }

abbrev pub taken : Course
taken = record { taken = true; elements = 0; matched = false; unmarked = false }

-- Carried out, and the run goes on.
abbrev pub on : Course → Processor → Cells → Effect
on y c s = effect (Ok (record { course = y; trap = None })) c s

-- Carried out, and the run ends.
abbrev pub ending : Trap → Processor → Cells → Effect
ending t c s = effect (Ok (record { course = plain; trap = Some t })) c s

-- The bank in use with `v` in the register.
abbrev pub loaded : Processor → Register → ℕ → Processor
loaded c r v = with_bank c (with_value (bank_of c) r v)

abbrev pub outcome_of : Processor → Operation → Register → ℕ → Outcome
outcome_of c o r v = result_of o (value_in (bank_of c) r) v (bank_of c).flags.carry

abbrev pub operated_by : Processor → Operation → Register → ℕ → Processor
operated_by c o r v = with_bank c (with_flags (with_value (bank_of c) r (outcome_of c o r v).byte) (outcome_of c o r v).flags)

-- A shift changes no flag but the carry.
abbrev pub turned : Processor → Shift → Register → Processor
turned c t r =
    with_bank c
    (with_carry (with_value (bank_of c) r (shifted_of t (value_in (bank_of c) r) (bank_of c).flags.carry).0)
    (shifted_of t (value_in (bank_of c) r) (bank_of c).flags.carry).1)

-- The operand of an operation; `v` is the byte after the op code.
abbrev pub source_in : Source → Cells → Bank → ℕ → Result ℕ Fault
source_in (from.Register r) s k v = Ok (value_in k r)
source_in from.Memory s k v = read_of s (pair_in k HL)
source_in from.Immediate s k v = Ok (v % 256)

abbrev pub called_to : Processor → ℕ → Processor
called_to c to = with_p (with_stack c (pushed c.stack c.p)) to

abbrev pub returned : Processor → Processor
returned c = with_p (with_stack c (popped c.stack)) (on_top c.stack)

abbrev pub pushed_on : Processor → ℕ → Processor
pushed_on c v = with_stack c (pushed c.stack v)

abbrev pub popped_into : Processor → Pair → Processor
popped_into c p = with_bank (with_stack c (popped c.stack)) (with_pair (bank_of c) p (on_top c.stack))

abbrev pub read_into : Result ℕ Fault → Register → Processor → Cells → Effect
read_into (Ok b) r c s = on plain (loaded c r b) s
read_into (Err e) r c s = effect (Err e) c s

abbrev pub wrote : Result (Unit {0}) Fault → Processor → Cells → Effect
wrote (Ok u) c s = on plain c s
wrote (Err e) c s = effect (Err e) c s

abbrev pub operated_with : Result ℕ Fault → Operation → Register → Processor → Cells → Effect
operated_with (Ok b) o r c s = on plain (operated_by c o r b) s
operated_with (Err e) o r c s = effect (Err e) c s

-- What a block move does to the stack, however it ends: nothing.
abbrev pub stack_after_move : Stack → Stack
stack_after_move s = s

abbrev pub move_answer : Result Transfer Fault → Bool → Result Carried Fault
move_answer (Ok m) unmarked =
    Ok (record { course = record { taken = false; elements = m.elements; matched = m.matched; unmarked = unmarked }; trap = None })
move_answer (Err e) unmarked = Err e

abbrev pub moved_by : Block → Processor → Cells → Effect
moved_by x c s =
    let y : Moved = block_of x (bank_of c) s in
    effect (move_answer y.answer ((bank_of c).b == 0)) (with_stack (with_bank c y.bank) (stack_after_move c.stack)) y.cells

abbrev pub field_answer : Result (Unit {0}) Fault → ℕ → Result Carried Fault
field_answer (Ok u) width = Ok (record { course = record { taken = false; elements = width; matched = false; unmarked = false }; trap = None })
field_answer (Err e) width = Err e

abbrev pub field_by : Operation → Processor → Cells → Effect
field_by o c s =
    let y : Worked = field_of o (bank_of c) s in
    effect (field_answer y.answer (width_of (bank_of c).c)) (with_bank c y.bank) y.cells

-- P of the processor is after the instruction; `v` is its operand.
abbrev pub effect_of : Instruction → ℕ → Processor → Cells → Effect
effect_of i.Halt v c s = ending trap.Halt c s
effect_of (i.LoadImmediate r) v c s = on plain (loaded c r (v % 256)) s
effect_of (i.Load d r) v c s = on plain (loaded c d (value_in (bank_of c) r)) s
effect_of (i.LoadFromMemory d p) v c s = read_into (read_of s (pair_in (bank_of c) p)) d c s
effect_of (i.StoreToMemory r p) v c s =
    wrote (allow_of s (pair_in (bank_of c) p)) c (store_of s (pair_in (bank_of c) p) (value_in (bank_of c) r))
effect_of (i.Operate o from r) v c s = operated_with (source_in from s (bank_of c) v) o r c s
effect_of (i.Shift t r) v c s = on plain (turned c t r) s
effect_of i.Jump v c s = on plain (with_p c v) s
effect_of (i.JumpIf k) v c s = cond (holds_of k (bank_of c).flags) (on taken (with_p c v) s) (on plain c s)
effect_of i.Call v c s = on plain (called_to c v) s
effect_of (i.CallIf k) v c s = cond (holds_of k (bank_of c).flags) (on taken (called_to c v) s) (on plain c s)
effect_of i.Return v c s = on plain (returned c) s
effect_of (i.ReturnIf k) v c s = cond (holds_of k (bank_of c).flags) (on taken (returned c) s) (on plain c s)
effect_of (i.Push p) v c s = on plain (pushed_on c (pair_in (bank_of c) p)) s
effect_of i.PushImmediate v c s = on plain (pushed_on c v) s
effect_of (i.Pop p) v c s = on plain (popped_into c p) s
effect_of i.EnableInterrupts v c s = on plain (with_interrupts c true) s
effect_of i.DisableInterrupts v c s = on plain (with_interrupts c false) s
effect_of i.SelectAlpha v c s = on plain (with_mode c Alpha) s
effect_of i.SelectBeta v c s = on plain (with_mode c Beta) s
effect_of i.BlockTransfer v c s = moved_by Forward c s
effect_of i.BlockTransferReverse v c s = moved_by Backward c s
effect_of i.BlockConvert v c s = moved_by Convert c s
effect_of i.FieldAdd v c s = field_by AddCarry c s
effect_of i.FieldSubtract v c s = field_by SubtractBorrow c s
effect_of i.CallSystem v c s = ending trap.SystemCall c s
effect_of i.Break v c s = ending trap.Breakpoint c s
