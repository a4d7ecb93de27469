-- One turn of a field instruction, by what its element answered.
use Rattle.std.proofs.Common.{◌≡◌, ℕ, suc, ◌-◌, ◌<◌, ap, ◌∙◌, arith}
use Rattle.registers.specs.declared.bank.Bank.{Bank}
use Rattle.registers.specs.declared.bank.Flags.{Flags}
use Rattle.alu.specs.declared.Operation.{Operation}
use Rattle.space.specs.Cells.{Cells}
use Rattle.block.specs.Fields.{Worked, field_element_of, field_following, field_from}

pub field_turn : (o : Operation) (f : Flags) (left : ℕ) (k : Bank) (s : Cells) (y : Worked) → 0 < left
    → y ≡ field_element_of o k s → field_following y f (field_from o f (left - 1)) ≡ field_from o f left k s
field_turn o f left k s y h e =
    let next : suc (left - 1) ≡ left = omega arith in
    ap (λ z. field_following z f (field_from o f (left - 1))) e ∙ ap (λ m. field_from o f m k s) next
