-- BFAC and BFSB: what their elements do to a bank and to the cells.
use Rattle.std.specs.Prelude.{ℕ, zero, suc, ◌%◌, cond, Ok, Err, Result, ◌==◌}
use Rattle.registers.specs.declared.bank.Bank.{Bank}
use Rattle.registers.specs.declared.bank.Flags.{Flags}
use Rattle.registers.specs.declared.bank.Pair.TheVariants.{HL, DE}
use Rattle.registers.specs.Banks.{pair_in, with_flags}
use Rattle.alu.specs.declared.Operation.{Operation}
use Rattle.alu.specs.Operations.{result_of}
use Rattle.space.specs.Cells.{Cells, read_of, allow_of, store_of}
use Rattle.stop.specs.declared.Fault.{Fault}
use Rattle.block.specs.Afters.{After, after, and_then}
use Rattle.block.specs.Transfers.{onward}

abbrev pub Worked : Type 0
Worked = After (Result (Unit {0}) Fault)

-- An element: read at HL, read at DE, store at DE, move both down. The carry goes on to the next.
abbrev pub field_element_of : Operation → Bank → Cells → Worked
field_element_of o k s =
    and_then (read_of s (pair_in k HL)) k s
    (λ b. and_then (read_of s (pair_in k DE)) k s
    (λ a. and_then (allow_of s (pair_in k DE)) k s
    (λ _. after (Ok tt) (with_flags (onward 65535 k) (result_of o a b k.flags.carry).flags) (store_of s (pair_in k DE) (result_of o a b k.flags.carry).byte))))

-- The low four bits of C, where 0 stands for 16.
abbrev pub width_of : ℕ → ℕ
width_of c = cond (c % 16 == 0) 16 (c % 16)

-- What follows an element: `rest`, or the fault with the flags `f`.
abbrev pub field_next : Result (Unit {0}) Fault → Flags → (Bank → Cells → Worked) → Bank → Cells → Worked
field_next (Ok u) f rest k s = rest k s
field_next (Err e) f rest k s = after (Err e) (with_flags k f) s

abbrev pub field_following : Worked → Flags → (Bank → Cells → Worked) → Worked
field_following y f rest = field_next y.answer f rest y.bank y.cells

-- The elements one after the other; `f` are the flags before the instruction.
abbrev pub field_from : Operation → Flags → (left : ℕ) → Bank → Cells → Worked
field_from o f zero k s = after (Ok tt) k s
field_from o f (suc left) k s = field_following (field_element_of o k s) f (field_from o f left)

abbrev pub field_of : Operation → Bank → Cells → Worked
field_of o k s = field_from o k.flags (width_of k.c) k s
