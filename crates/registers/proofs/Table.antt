-- A test that passes at each number below a bound: antt computes it once, and it then holds of each.
use Rattle.std.proofs.Common.{◌≡◌, ℕ, zero, suc, ◌<◌, Bool, true, false, ◌&&◌, T, eqb, List, get_or, sym, subst, ⊎_elim, not-suc-le-zero, arith, eqb→eq}
use Rattle.std.proofs.lemmas.Bool.{cases_eq}
pub use Rattle.registers.specs.Tests.{passes}

left : (a b : Bool) → T (a && b) → T a
left true b t = tt
left false b t = t

right : (a b : Bool) → T (a && b) → T b
right true b t = t
right false b t = absurd t

pub below : (f : ℕ → Bool) (n : ℕ) → T (passes f n) → (k : ℕ) → k < n → T (f k)
below f zero t k h = absurd (not-suc-le-zero h)
below f (suc n) t k h =
    ⊎_elim (λ e. subst (λ (m : ℕ). T (f m)) (sym e) (left (f n) (passes f n) t))
    (λ d. below f n (right (f n) (passes f n) t) k (omega (arith, d))) (cases_eq k n)

-- Two functions to numbers that agree at each number below the bound.
pub agree : (f g : ℕ → ℕ) (n : ℕ) → T (passes (λ k. eqb (f k) (g k)) n) → (k : ℕ) → k < n → f k ≡ g k
agree f g n t k h = eqb→eq (f k) (g k) (below (λ j. eqb (f j) (g j)) n t k h)

-- A list that agrees with a function at each place below the bound.
pub tabled : (xs : List ℕ) (g : ℕ → ℕ) (n : ℕ) → T (passes (λ k. eqb (get_or xs k 0) (g k)) n) → (k : ℕ) → k < n → get_or xs k 0 ≡ g k
tabled xs g n t k h = agree (λ j. get_or xs j 0) g n t k h
