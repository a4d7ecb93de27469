-- Charges, their sum, and how they are printed.
use Rattle.std.specs.Prelude.{ℕ, ◌+◌, ◌*◌, ◌/◌, ◌%◌, List, ◌++◌, codes, decimal, sum_by}
use Rattle.office.specs.declared.charge.Charge.{Charge}

abbrev pub charge_of : ℕ → ℕ → ℕ → Charge
charge_of high middle low = record { cents = high * 65536 + middle * 256 + low }

abbrev pub sum_of : List Charge → ℕ
sum_of cs = sum_by (λ c. c.cents) cs

-- Whole units, a point, and two digits.
abbrev pub money_of : Charge → List ℕ
money_of c = decimal (c.cents / 100) ++ (codes "." ++ (decimal (c.cents / 10 % 10) ++ decimal (c.cents % 10)))
