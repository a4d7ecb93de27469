-- A set with one page more.
use Rattle.std.proofs.Common.{◌≡◌, ℕ, ◌*◌, ◌/◌, ◌%◌, ◌^◌, ◌<◌, Bool, true, false, ◌||◌, eqb, sym, ap, ◌∙◌, refl, eqb-true, w16}
use lib.Bits.{bit_or}
use borrow.Author.Tests.{eqb-false}
use Rattle.std.proofs.lemmas.Nat.Bits.{shr_and_one, bit_at_set_same, bit_at_set_other}
use Rattle.memory.specs.Memories.{in_set}

pub with_one : (mask p q : ℕ) → q < 16 → in_set (bit_or mask ((1 * 2 ^ q) % 65536)) p ≡ (eqb p q || in_set mask p)
with_one mask p q h = ap (λ x. eqb x 1) (shr_and_one with_q p) ∙ by_page (eqb p q) refl
  where
    with_q : ℕ
    with_q = bit_or mask ((1 * 2 ^ q) % 65536)

    by_page : (z : Bool) → eqb p q ≡ z → eqb (with_q / 2 ^ p % 2) 1 ≡ (z || in_set mask p)
    by_page true e = ap (λ x. eqb (with_q / 2 ^ x % 2) 1) (eqb-true p q e) ∙ ap (λ x. eqb x 1) (bit_at_set_same w16 mask q h)
    by_page false e = ap (λ x. eqb x 1) (bit_at_set_other w16 mask q h p (eqb-false p q e) ∙ sym (shr_and_one mask p))
