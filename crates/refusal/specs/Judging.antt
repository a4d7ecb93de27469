-- How grounds are judged: one after the other, and the first that holds is the refusal.
use Rattle.std.specs.Prelude.{ℕ, zero, suc, ◌+◌, Bool, true, false, List, [], ◌∷◌, Some, None, Ok, Err, Option, Result}
use Rattle.refusal.specs.declared.Ground.{Ground}
use Rattle.refusal.specs.declared.Refusal.{Refusal}
use Rattle.refusal.specs.Grounds.{refusal_of}

-- Accepted, or refused.
abbrev pub Judgement : Type 0
Judgement = Result (Unit {0}) Refusal

-- A ground that holds or not, and has no place of its own.
abbrev pub when : Bool → Ground → Judgement
when true g = Err (refusal_of g 0)
when false g = Ok tt

-- A ground with the first place where it holds, if it holds somewhere.
abbrev pub at : Ground → Option ℕ → Judgement
at g (Some place) = Err (refusal_of g place)
at g None = Ok tt

abbrev pub also : Judgement → Judgement → Judgement
also (Err r) more = Err r
also (Ok u) more = more

-- The first of the grounds that holds.
abbrev pub first : List Judgement → Judgement
first [] = Ok tt
first (x ∷ xs) = also x (first xs)

-- What is left, by whether a call is refused.
abbrev pub unless_refused : {A : Type 0} → Judgement → A → A → A
unless_refused (Err r) before after = before
unless_refused (Ok u) before after = after

-- The first of the `count` numbers from `from` on at which the test holds.
abbrev pub picked : Bool → ℕ → Option ℕ → Option ℕ
picked true n more = Some n
picked false n more = more

unfoldable pub first_from : (count from : ℕ) → (ℕ → Bool) → Option ℕ
first_from zero from f = None
first_from (suc n) from f = picked (f from) from (first_from n (from + 1) f)
