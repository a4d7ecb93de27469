-- How many bytes an instruction has, without a selecting byte before it.
use Rattle.std.specs.Prelude.{ℕ, ◌/◌, cond, T, List, Some, None, Ok, Err, Option, Result, ◌==◌, nat_eq, slice_index}
use Rattle.stop.specs.declared.Fault.{Fault}
use Rattle.stop.specs.declared.Fault.TheVariants.{Privileged, NoAccess, NoWriting, NotCarried}
use Rattle.decode.specs.declared.instruction.Source.TheVariants as from
use Rattle.decode.specs.declared.instruction.Instruction.{Instruction}
use Rattle.decode.specs.declared.instruction.Instruction.TheVariants as i
use Rattle.decode.specs.declared.instruction.Selector.{Selector}
use Rattle.registers.specs.Tests.{passes}
use Rattle.decode.specs.Digits.{selector_of}
use Rattle.decode.specs.Patterns.{decode_of}

abbrev pub bytes_of : Instruction → ℕ
bytes_of i.Halt = 1
bytes_of (i.LoadImmediate r) = 2
bytes_of (i.Load d s) = 1
bytes_of (i.LoadFromMemory d p) = 1
bytes_of (i.StoreToMemory s p) = 1
bytes_of (i.Operate o (from.Register s) r) = 1
bytes_of (i.Operate o from.Memory r) = 1
bytes_of (i.Operate o from.Immediate r) = 2
bytes_of (i.Shift s r) = 1
bytes_of i.Jump = 3
bytes_of (i.JumpIf k) = 3
bytes_of i.Call = 3
bytes_of (i.CallIf k) = 3
bytes_of i.Return = 1
bytes_of (i.ReturnIf k) = 1
bytes_of (i.Push p) = 1
bytes_of i.PushImmediate = 3
bytes_of (i.Pop p) = 1
bytes_of i.EnableInterrupts = 1
bytes_of i.DisableInterrupts = 1
bytes_of i.SelectAlpha = 1
bytes_of i.SelectBeta = 1
bytes_of i.BlockTransfer = 1
bytes_of i.BlockTransferReverse = 1
bytes_of i.BlockConvert = 1
bytes_of i.FieldAdd = 1
bytes_of i.FieldSubtract = 1
bytes_of i.CallSystem = 1
bytes_of i.Break = 1

abbrev pub selecting_length : Option Selector → ℕ
selecting_length (Some r) = 1
selecting_length None = 0

-- INPUT, PIN and EX, 1dl, have their byte though they are privileged; the loads of the sector table and of the base register count as not carried.
abbrev pub length_by : ℕ → Result Instruction Fault → ℕ
length_by op (Ok x) = bytes_of x
length_by op (Err Privileged) = cond (op / 64 == 1) 1 0
length_by op (Err NoAccess) = 0
length_by op (Err NoWriting) = 0
length_by op (Err NotCarried) = selecting_length (selector_of op)

abbrev pub length_of : ℕ → ℕ
length_of op = length_by op (decode_of None op)

-- A table that has the length of each op code at its place.
abbrev pub Agrees : List ℕ → Type 0
Agrees xs = T (passes (λ op. nat_eq (slice_index xs op) (length_of op)) 256)
