-- The nanoseconds of each instruction, by what happened in it.
use Rattle.std.specs.Prelude.{Bool, cond, not, ℕ, ◌+◌, ◌-◌, ◌*◌}
use Rattle.registers.specs.declared.bank.Register.{Register}
use Rattle.registers.specs.declared.bank.Register.TheVariants as r
use Rattle.registers.specs.declared.bank.Pair.{Pair}
use Rattle.registers.specs.declared.bank.Pair.TheVariants.{XA, BC, DE, HL}
use Rattle.alu.specs.declared.Operation.{Operation}
use Rattle.alu.specs.declared.Operation.TheVariants as o
use Rattle.decode.specs.declared.instruction.Source.{Source}
use Rattle.decode.specs.declared.instruction.Source.TheVariants as from
use Rattle.decode.specs.declared.instruction.Instruction.{Instruction}
use Rattle.decode.specs.declared.instruction.Instruction.TheVariants as i
use Rattle.times.specs.declared.Course.{Course}

-- By where the operand is: in the instruction, in memory or in a register.
abbrev pub by_source : Source → ℕ → ℕ → ℕ → ℕ
by_source from.Immediate a b c = a
by_source from.Memory a b c = b
by_source (from.Register s) a b c = c

abbrev pub operate_time_of : Operation → Source → ℕ
operate_time_of o.Add s = by_source s 2200 2600 1400
operate_time_of o.AddCarry s = by_source s 2200 2600 1400
operate_time_of o.Subtract s = by_source s 2000 2600 1400
operate_time_of o.SubtractBorrow s = by_source s 2200 2600 1400
operate_time_of o.And s = by_source s 2200 2600 1400
operate_time_of o.ExclusiveOr s = by_source s 2000 2600 1400
operate_time_of o.Or s = by_source s 2000 2600 1400
operate_time_of o.Compare s = by_source s 1800 2400 1200

-- Each register but A takes a selecting byte.
abbrev pub by_register : Register → ℕ → ℕ
by_register r.A t = t
by_register r.B t = t + 1000
by_register r.C t = t + 1000
by_register r.D t = t + 1000
by_register r.E t = t + 1000
by_register r.H t = t + 1000
by_register r.L t = t + 1000
by_register r.X t = t + 1000

-- Each pair but HL takes a selecting byte.
abbrev pub by_pair : Pair → ℕ → ℕ
by_pair HL t = t
by_pair XA t = t + 800
by_pair BC t = t + 800
by_pair DE t = t + 800

-- A start, then for each element, 200 more for each if `longer`, and 800 less after a match.
abbrev pub block_time_of : ℕ → ℕ → Bool → Course → ℕ
block_time_of start each longer course = start + course.elements * (each + cond longer 200 0) - cond course.matched 800 0

abbrev pub time_of : Instruction → Course → ℕ
time_of i.Halt course = 0
time_of (i.LoadImmediate r) course = 1800
time_of (i.Load d s) course = 1200
time_of (i.LoadFromMemory d p) course = by_pair p 2600
time_of (i.StoreToMemory s p) course = by_pair p 2600
time_of (i.Operate o s r) course = by_register r (operate_time_of o s)
time_of (i.Shift s r) course = by_register r 1400
time_of i.Jump course = 2800
time_of (i.JumpIf k) course = cond course.taken 2800 1400
time_of i.Call course = 2800
time_of (i.CallIf k) course = cond course.taken 3200 1600
time_of i.Return course = 1800
time_of (i.ReturnIf k) course = cond course.taken 2000 1000
time_of (i.Push p) course = by_pair p 1800
time_of i.PushImmediate course = 2600
time_of (i.Pop p) course = by_pair p 2200
time_of i.EnableInterrupts course = 1400
time_of i.DisableInterrupts course = 1400
time_of i.SelectAlpha course = 1400
time_of i.SelectBeta course = 1400
time_of i.BlockTransfer course = block_time_of 4800 3200 (not course.unmarked) course
time_of i.BlockTransferReverse course = block_time_of 5800 3600 (not course.unmarked) course
time_of i.BlockConvert course = block_time_of 5800 4800 course.unmarked course
time_of i.FieldAdd course = 5000 + course.elements * 2800
time_of i.FieldSubtract course = 5000 + course.elements * 2800
time_of i.CallSystem course = 1800
time_of i.Break course = 2200
