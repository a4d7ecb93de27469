-- One turn of the block transfer, by what its element answered.
use Rattle.std.proofs.Common.{◌≡◌, ℕ, zero, suc, ◌+◌, ◌*◌, ◌-◌, ◌%◌, ◌<◌, true, false, eqb, Ok, Err, Result, sym, refl, ap, ◌∙◌, arith}
use Rattle.registers.specs.declared.bank.Bank.{Bank}
use Rattle.stop.specs.declared.Fault.{Fault}
use Rattle.registers.specs.declared.bank.Pair.TheVariants.{HL, DE}
use Rattle.registers.specs.Banks.{pair_in}
use Rattle.block.specs.declared.transfers.Block.{Block}
use Rattle.block.specs.declared.transfers.Block.TheVariants.{Forward, Backward, Convert}
use Rattle.space.specs.Cells.{Cells, read_of, allow_of}
use Rattle.block.specs.Afters.{After, after, and_then}
use Rattle.block.specs.Transfers.{element_by, stored, Moved, ended, following, counted, block_from}
use Rattle.std.proofs.lemmas.Bool.{eq-eqb, ne_eqb, cond-true, cond-false}

-- With `before` of at most `most` elements done, the last of which answered `sum`: what is left to do ends as `end`.
pub record Onward (x : Block) (most before sum : ℕ) (k : Bank) (s : Cells) (end : Moved) : Type 0 where
  pub more : before < most → block_from x (most - 1 - before) before k s ≡ end
  pub last : before ≡ most → ended most false sum k s ≡ end

module _ (x : Block) (k : Bank) (s : Cells) (before : ℕ) (k' : Bank) (s' : Cells) where
  pub stopped : (more : ℕ) (e : Fault) → after (Err e) k' s' ≡ element_by x k s → after (Err e) k' s' ≡ block_from x more before k s
  stopped zero e h = ap (λ y. following y (before + 1) (ended (before + 1) false)) h
  stopped (suc more) e h = ap (λ y. following y (before + 1) (λ sum. block_from x more (before + 1))) h

  pub matched : (more sum : ℕ) → after (Ok sum) k' s' ≡ element_by x k s → sum ≡ 256
      → ended (before + 1) true sum k' s' ≡ block_from x more before k s
  matched zero sum h e =
      sym (cond-true (eqb sum 256) _ _ (eq-eqb sum 256 e)) ∙ ap (λ y. following y (before + 1) (ended (before + 1) false)) h
  matched (suc more) sum h e =
      sym (cond-true (eqb sum 256) _ _ (eq-eqb sum 256 e))
      ∙ ap (λ y. following y (before + 1) (λ sum. block_from x more (before + 1))) h

  -- After an element that did not match: what is left, or the end where it was the last.
  pub unmatched : (most sum : ℕ) (end : Moved) → before < most → after (Ok sum) k' s' ≡ element_by x k s → (sum ≡ 256 → ⊥)
      → block_from x (most - 1 - before) before k s ≡ end → Onward x most (before + 1) sum (counted k') s' end
  unmatched most sum end low h n w = record {
    more = λ l.
        let left : suc (most - 1 - (before + 1)) ≡ most - 1 - before = omega arith in
        sym (cond-false (eqb sum 256) _ _ (ne_eqb sum 256 n))
        ∙ ap (λ y. following y (before + 1) (λ sum. block_from x (most - 1 - (before + 1)) (before + 1))) h
        ∙ ap (λ (m : ℕ). block_from x m before k s) left
        ∙ w;
    last = λ e.
        let none : zero ≡ most - 1 - before = omega arith in
        ap (λ m. ended m false sum (counted k') s') (sym e)
        ∙ sym (cond-false (eqb sum 256) _ _ (ne_eqb sum 256 n))
        ∙ ap (λ y. following y (before + 1) (ended (before + 1) false)) h
        ∙ ap (λ (m : ℕ). block_from x m before k s) none
        ∙ w;
  }

-- An element leaves C as it is.
then_c : {X : Type 0} (r : Result X Fault) (k : Bank) (s : Cells) (f : X → After (Result ℕ Fault))
    → ((y : X) → (f y).bank.c ≡ k.c) → (and_then r k s f).bank.c ≡ k.c
then_c (Ok y) k s f h = h y
then_c (Err e) k s f h = refl

stored_c : (b : ℕ) (k : Bank) (s : Cells) (k' : Bank) → k'.c ≡ k.c → (stored b k s k').bank.c ≡ k.c
stored_c b k s k' h = then_c (allow_of s (pair_in k DE)) k s _ (λ _. h)

element_c : (x : Block) (k : Bank) (s : Cells) → (element_by x k s).bank.c ≡ k.c
element_c Forward k s = then_c (read_of s (pair_in k HL)) k s _ (λ b. stored_c ((b + k.a) % 256) k s _ refl)
element_c Backward k s = then_c (read_of s (pair_in k HL)) k s _ (λ b. stored_c ((b + k.a) % 256) k s _ refl)
element_c Convert k s =
    then_c (read_of s (pair_in k DE)) k s _
    (λ b. then_c (read_of s (k.h * 256 + (b + k.l) % 256)) k s _ (λ t. stored_c t k s _ refl))

pub same_c : (x : Block) (k : Bank) (s : Cells) (k' : Bank) (s' : Cells) (sum : ℕ) → after (Ok sum) k' s' ≡ element_by x k s → k'.c ≡ k.c
same_c x k s k' s' sum h = ap (λ y. y.bank.c) h ∙ element_c x k s
