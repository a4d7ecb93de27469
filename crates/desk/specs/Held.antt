-- The receipt in a job's place, if there is one.
use Rattle.std.specs.Prelude.{ℕ, cond, List, Some, None, Option, ◌==◌, slice_set}
use Rattle.engine.specs.declared.receipt.Receipt.{Receipt}

abbrev pub number_in : Option Receipt → Option ℕ
number_in None = None
number_in (Some r) = Some r.number

-- It, if it has this number.
abbrev pub fitting : ℕ → Option Receipt → Option Receipt
fitting n None = None
fitting n (Some r) = cond (r.number == n) (Some r) None

-- The places once a receipt, if any, is taken out of that of the job `j`.
abbrev pub without : Option Receipt → List (Option Receipt) → ℕ → List (Option Receipt)
without None rs j = rs
without (Some r) rs j = slice_set rs j None
