-- The first number of a range that passes a test, a number at a time, and what it means that none does.
use Rattle.std.proofs.Common.{◌≡◌, ℕ, zero, suc, ◌+◌, ◌-◌, ◌<◌, ◌≤◌, Bool, true, false, ◌||◌, List, length, slice_index, add-one, Some, None, Option, MatchOption, refl, sym, ap, ◌∙◌, ⊎_elim, arith}
use Rattle.std.proofs.lemmas.Bool.{cases_eq, or_right}
use Rattle.std.proofs.lemmas.Option.{none-some}
use Rattle.std.proofs.lemmas.Iterator.{YieldsList-from_range, cases_from_any, first_from_Range}
use Rattle.std.proofs.lemmas.List.FromFn.{length-range_with_len, get_or-range_with_len}
use Rattle.std.specs.Bool.{⊤, MatchBool}
use Rattle.std.specs.Fn.{Called, CalledAt}
use Rattle.std.specs.Iterator.{YieldsThen}
use Rattle.std.specs.List.{FoldsTo, range_with_len, HoldsAt, AllWithin}
use Rattle.std.proofs.iter.Yields.{nat_range_steps}
use Rattle.std.specs.declared.ops.Range.{Range}
use denote.Param.Members.{Mut}
use denote.Ref.{Bor}
use Rattle.refusal.specs.Judging.{picked, first_from}

-- Where none passes, each fails.
pub none_passes : (f : ℕ → Bool) (count from : ℕ) → first_from count from f ≡ None → (k : ℕ) → from ≤ k → k < from + count → f k ≡ false
unfolding first_from
none_passes f zero from e k low high = absurd (omega arith)
none_passes f (suc count) from e k low high = go (f from) refl e (λ p l. none_passes f count (from + 1) p k l (omega arith))
  where
    go : (z : Bool) → f from ≡ z → picked z from (first_from count (from + 1) f) ≡ None
        → (first_from count (from + 1) f ≡ None → from + 1 ≤ k → f k ≡ false) → f k ≡ false
    go true q p rest = absurd (none-some from (sym p))
    go false q p rest = ⊎_elim (λ (s : k ≡ from). ap f s ∙ q) (λ d. rest p (omega (arith, d))) (cases_eq k from)

-- What `find` says of a range is what `first_from` computes.
pub first_is_none : (f : ℕ → Bool) (count from : ℕ) → ((k : ℕ) → from ≤ k → k < from + count → f k ≡ false) → first_from count from f ≡ None
unfolding first_from
first_is_none f zero from h = refl
first_is_none f (suc n) from h =
    ap (λ z. picked z from (first_from n (from + 1) f)) (h from (omega arith) (omega arith))
    ∙ first_is_none f n (from + 1) (λ k l u. h k (omega arith) (omega arith))

pub first_is_some : (f : ℕ → Bool) (count from i : ℕ) → from ≤ i → i < from + count → f i ≡ true → ((k : ℕ) → from ≤ k → k < i → f k ≡ false) → first_from count from f ≡ Some i
unfolding first_from
first_is_some f zero from i low high t h = absurd (omega arith)
first_is_some f (suc n) from i low high t h =
    ⊎_elim
    (λ (s : from ≡ i). ap (λ z. picked z from (first_from n (from + 1) f)) (ap f s ∙ t) ∙ ap Some s)
    (λ d. ap (λ z. picked z from (first_from n (from + 1) f)) (h from (omega arith) (omega (arith, d)))
    ∙ first_is_some f n (from + 1) i (omega (arith, d)) (omega arith) t (λ k l u. h k (omega arith) u))
    (cases_eq from i)

first_by : (f : ℕ → Bool) (from end : ℕ) (r : Option ℕ)
    → MatchOption r ((k : ℕ) → from ≤ k → k < end → f k ≡ false) (λ i. (from ≤ i) × (i < end) × (f i ≡ true) × ((k : ℕ) → from ≤ k → k < i → f k ≡ false))
    → r ≡ first_from (end - from) from f
first_by f from end None h = sym (first_is_none f (end - from) from (λ k l u. h k l (omega arith)))
first_by f from end (Some i) h = sym (first_is_some f (end - from) from i h.0 (let u = h.1 in omega (arith, u)) h.2 h.3)

-- A closure that computes a test leaves `find` with the first number of the range that passes it.
pub found : {F : Type 0} {g : Mut F (Bor ℕ × Unit {0}) Bool} (f : ℕ → Bool) (s u : Range ℕ) (p : F) (r : Option ℕ)
    → (xs : List ℕ) × (j : F) × YieldsThen nat_range_steps s xs r u × FoldsTo (λ p x q. CalledAt g p x false q) p xs j × MatchOption r ⊤ (λ x. (h : F) × CalledAt g j x true h)
    → ((x : ℕ) (b : Bool) (q : F) → CalledAt g p x b q → (q ≡ p) × (b ≡ f x))
    → r ≡ first_from (s.end - s.start) s.start f
found f s u p r ran calls =
    first_by f s.start s.end r
    (first_from_Range s u p r (λ k. f k ≡ true) (λ k. f k ≡ false) ran (λ x q k. sym (calls x true q k).1) (λ x q k. ((calls x false q k).0, sym (calls x false q k).1)))

-- A closure that computes a test makes `any` over the numbers below `n` what `h` says of them, a number at a time.
module _ (f h : ℕ → Bool) (none : h 0 ≡ false) (more : (n : ℕ) → h (n + 1) ≡ (f n || h n)) where
  pub passes : (n k : ℕ) → k < n → f k ≡ true → h n ≡ true
  passes zero k low t = absurd (omega arith)
  passes (suc n) k low t =
      ap h (sym (add-one n))
      ∙ more n
      ∙ ⊎_elim (λ (s : k ≡ n). ap (λ z. z || h n) (ap f (sym s) ∙ t)) (λ d. or_right (f n) (h n) (passes n k (omega (arith, d)) t)) (cases_eq k n)

  fails : (n : ℕ) → ((k : ℕ) → k < n → f k ≡ false) → h n ≡ false
  fails zero each = none
  fails (suc n) each = ap h (sym (add-one n)) ∙ more n ∙ ap (λ z. z || h n) (each n (omega arith)) ∙ fails n (λ k l. each k (omega arith))

  by_cases : (n : ℕ) (r : Bool) → MatchBool r ((k : ℕ) × (k < n) × (f k ≡ true)) ((k : ℕ) → k < n → f k ≡ false) → r ≡ h n
  by_cases n true e = sym (passes n e.0 e.1 e.2)
  by_cases n false e = sym (fails n e)

  pub any_below : {F : Type 0} {g : Mut F (ℕ × Unit {0}) Bool} (n : ℕ) (u : Range ℕ) (p : F) (r : Bool)
      → (xs : List ℕ) × (o : Option ℕ) × (j : F) × YieldsThen nat_range_steps (record { start = 0; end = n }) xs o u × FoldsTo (λ p x q. Called g p (x, tt) false q) p xs j
      × MatchOption o (r ≡ false) (λ x. (r ≡ true) × ((e : F) × Called g j (x, tt) true e))
      → ((x : ℕ) (b : Bool) (q : F) → Called g p (x, tt) b q → (q ≡ p) × (b ≡ f x))
      → r ≡ h n
  any_below n u p r ran calls =
      by_cases n r (numbers r
      (cases_from_any u p r (λ k. f k ≡ true) (λ k. f k ≡ false) ran (YieldsList-from_range 0 n n refl (omega arith)) (λ x q k. sym (calls x true q k).1)
      (λ x q k. ((calls x false q k).0, sym (calls x false q k).1))))
    where
      same : (k : ℕ) → k < n → slice_index (range_with_len 0 n) k ≡ k
      same k low = let e = get_or-range_with_len 0 n k 0 low in omega (arith, e)

      numbers : (r : Bool)
          → MatchBool r ((k : ℕ) × (k < length (range_with_len 0 n)) × HoldsAt (λ x. f x ≡ true) (range_with_len 0 n) k) (AllWithin (λ x. f x ≡ false) (range_with_len 0 n) 0 (length (range_with_len 0 n)))
          → MatchBool r ((k : ℕ) × (k < n) × (f k ≡ true)) ((k : ℕ) → k < n → f k ≡ false)
      numbers true e = let low : e.0 < n = omega (arith, e.1, length-range_with_len 0 n) in (e.0, low, ap f (sym (same e.0 low)) ∙ e.2 0)
      numbers false e = λ k l. ap f (sym (same k l)) ∙ e k 0 (omega arith) (omega (arith, length-range_with_len 0 n, l))
