-- Each board of sixteen pages shows what the definition of the single board says, and each of eight what that of the twin board says.
use Rattle.std.proofs.Common.{◌≡◌, ℕ, [], length, refl, ap, ◌∙◌, ⊎_elim, arith}
use Rattle.std.proofs.lemmas.Bool.{cases_lt}
use Rattle.std.proofs.lemmas.Bool.Decides.{nat_tests}
use Rattle.std.proofs.lemmas.List.{get_or_past}
use Rattle.boards.specs.declared.board.Board.{Board}
use Rattle.boards.specs.Boards.{board_mem, shows}
use Rattle.boards.specs.Singles.{single_mem}
use Rattle.boards.specs.Twins.{twin_mem}

pub single_shows : (b : Board 16) → shows b ≡ single_mem b.lower.now b.sealed.mask
single_shows b =
    let none : b.upper.now ≡ [] = b.whole refl in
    ap (λ u. board_mem 16 b.lower.now u b.sealed.mask) none
    ∙ (λ i. record { byte = λ k. byte k i; takes = λ p. takes p i })
  where
    byte : (k : ℕ) → (board_mem 16 b.lower.now [] b.sealed.mask).byte k ≡ (single_mem b.lower.now b.sealed.mask).byte k
    byte k = ⊎_elim (λ within. grind (arith, nat_tests, within)) (λ past. let none = get_or_past b.lower.now k 0 past in grind (arith, nat_tests, none, past)) (cases_lt k (length b.lower.now))

    takes : (p : ℕ) → (board_mem 16 b.lower.now [] b.sealed.mask).takes p ≡ (single_mem b.lower.now b.sealed.mask).takes p
    takes p = grind (arith, nat_tests)

pub twin_shows : (b : Board 8) → shows b ≡ twin_mem b.lower.now b.upper.now b.sealed.mask
twin_shows b = λ i. record { byte = λ k. byte k i; takes = λ p. takes p i }
  where
    byte : (k : ℕ) → (shows b).byte k ≡ (twin_mem b.lower.now b.upper.now b.sealed.mask).byte k
    byte k = grind (arith, nat_tests)

    takes : (p : ℕ) → (shows b).takes p ≡ (twin_mem b.lower.now b.upper.now b.sealed.mask).takes p
    takes p = grind (arith, nat_tests)
