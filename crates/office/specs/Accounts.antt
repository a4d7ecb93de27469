-- What an account hands out, and how it answers.
use Rattle.std.specs.Prelude.{◌≡◌, ℕ, ◌+◌, cond, List, [], ◌∷◌, ◌++◌, length, Some, None, Ok, Err, vec_items, Option, Result, MatchResult, nat_lt, slice_index_or}
use Rattle.model.specs.declared.job.Registers.{Registers}
use Rattle.office.specs.declared.account.Account.{Account}
use Rattle.office.specs.declared.account.NoAnswer.{NoAnswer}
use Rattle.office.specs.declared.account.NoAnswer.TheVariants as none
use Rattle.office.specs.declared.question.Question.{Question}
use Rattle.office.specs.declared.question.Question.TheVariants.{Next, Delivers, Unknown}
use Rattle.office.specs.declared.question.Shipment.{Shipment}
use Rattle.office.specs.Questions.{plain_reply, shipment_reply}

-- The shipment at a place, if there are so many.
abbrev pub shipment_at : List Shipment → ℕ → Option Shipment
shipment_at ss n = cond (nat_lt n (length ss)) (Some (slice_index_or ss n (record { zone = 0; weight = 0 }))) None

abbrev pub handed_after : Option Shipment → ℕ → ℕ
handed_after None n = n
handed_after (Some s) n = n + 1

-- The account x answers with r, and is y then: it hands out the next shipment, or notes the charge, or has no answer and stays.
abbrev pub Answered : Question → List Shipment → Account → Account → Result Registers NoAnswer → Type 0
Answered Next ss x y r =
    (r ≡ Ok (shipment_reply (shipment_at ss x.handed))) × (y.handed ≡ handed_after (shipment_at ss x.handed) x.handed) × (y.charges ≡ x.charges)
Answered (Delivers charge) ss x y r =
    (y.handed ≡ x.handed) × MatchResult r (λ k. (k ≡ plain_reply 0 0) × (vec_items y.charges ≡ vec_items x.charges ++ charge ∷ []))
    (λ e. (e ≡ none.NoMemory) × (vec_items y.charges ≡ vec_items x.charges))
Answered (Unknown a) ss x y r = (r ≡ Err (none.Unknown a)) × (y ≡ x)
