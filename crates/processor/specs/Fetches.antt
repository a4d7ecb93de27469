-- The bytes of an instruction, fetched one after the other.
use Rattle.std.specs.Prelude.{ℕ, ◌+◌, ◌*◌, ◌%◌, Some, None, Ok, Err, Option, Result}
use Rattle.space.specs.Cells.{Cells, read_of}
use Rattle.stop.specs.declared.Fault.{Fault}
use Rattle.decode.specs.declared.instruction.Selector.{Selector}
use Rattle.decode.specs.declared.instruction.Source.TheVariants as from
use Rattle.decode.specs.declared.instruction.Instruction.{Instruction}
use Rattle.decode.specs.declared.instruction.Instruction.TheVariants as i
use Rattle.decode.specs.Digits.{selector_of}
use Rattle.decode.specs.Patterns.{decode_of}
use Rattle.processor.specs.declared.fetching.Fetched.{Fetched}

-- The first, and then the second on what the first answered, unless that was a fault.
abbrev pub and_then : {X Y : Type 0} → Result X Fault → (X → Result Y Fault) → Result Y Fault
and_then (Ok x) f = f x
and_then (Err e) f = Err e

-- The next address. Addresses wrap.
abbrev pub up : ℕ → ℕ
up at = (at + 1) % 65536

-- The instruction of a first byte: after a selecting byte the op code is the next one.
abbrev pub fetched_by : Option Selector → ℕ → Cells → ℕ → Result (Fetched Instruction) Fault
fetched_by None op s next = and_then (decode_of None op) (λ x. Ok (record { value = x; next = next }))
fetched_by (Some r) op s next =
    and_then (read_of s next) (λ op'. and_then (decode_of (Some r) op') (λ x. Ok (record { value = x; next = up next })))

abbrev pub fetch_of : Cells → ℕ → Result (Fetched Instruction) Fault
fetch_of s at = and_then (read_of s at) (λ op. fetched_by (selector_of op) op s (up at))

abbrev pub byte_at : Cells → ℕ → Result (Fetched ℕ) Fault
byte_at s at = and_then (read_of s at) (λ b. Ok (record { value = b; next = up at }))

-- The low byte comes first.
abbrev pub address_at : Cells → ℕ → Result (Fetched ℕ) Fault
address_at s at =
    and_then (read_of s at) (λ low. and_then (read_of s (up at)) (λ high. Ok (record { value = high * 256 + low; next = up (up at) })))

abbrev pub none : ℕ → Result (Fetched ℕ) Fault
none at = Ok (record { value = 0; next = at })

-- The bytes after the op code. A jump or call that is not taken has its address fetched all the same.
abbrev pub operand_of : Instruction → Cells → ℕ → Result (Fetched ℕ) Fault
operand_of i.Halt s at = none at
operand_of (i.LoadImmediate r) s at = byte_at s at
operand_of (i.Load d r) s at = none at
operand_of (i.LoadFromMemory d p) s at = none at
operand_of (i.StoreToMemory r p) s at = none at
operand_of (i.Operate o (from.Register r) t) s at = none at
operand_of (i.Operate o from.Memory t) s at = none at
operand_of (i.Operate o from.Immediate t) s at = byte_at s at
operand_of (i.Shift t r) s at = none at
operand_of i.Jump s at = address_at s at
operand_of (i.JumpIf k) s at = address_at s at
operand_of i.Call s at = address_at s at
operand_of (i.CallIf k) s at = address_at s at
operand_of i.Return s at = none at
operand_of (i.ReturnIf k) s at = none at
operand_of (i.Push p) s at = none at
operand_of i.PushImmediate s at = address_at s at
operand_of (i.Pop p) s at = none at
operand_of i.EnableInterrupts s at = none at
operand_of i.DisableInterrupts s at = none at
operand_of i.SelectAlpha s at = none at
operand_of i.SelectBeta s at = none at
operand_of i.BlockTransfer s at = none at
operand_of i.BlockTransferReverse s at = none at
operand_of i.BlockConvert s at = none at
operand_of i.FieldAdd s at = none at
operand_of i.FieldSubtract s at = none at
operand_of i.CallSystem s at = none at
operand_of i.Break s at = none at
