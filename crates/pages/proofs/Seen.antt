-- The bytes that a look shows, place by place.
use Rattle.std.proofs.Common.{◌≡◌, ℕ, zero, suc, ◌+◌, ◌<◌, ◌≢◌, List, length, get_or, set, sym, refl, ap, ◌∙◌, arith, get_or-set_other, get_or-set_same, below_more}
use Rattle.std.proofs.lemmas.List.{same_lists}
use Rattle.space.specs.Cells.{Cells}
use Rattle.pages.specs.Held.{bytes_of}
use Rattle.pages.specs.Looks.{seen}

seen_length : (n a : ℕ) (s : Cells) → length (seen n a s) ≡ n
unfolding seen
seen_length zero a s = refl
seen_length (suc n) a s = ap suc (seen_length n (a + 1) s)

seen_at : (n a : ℕ) (s : Cells) (k d : ℕ) → k < n → get_or (seen n a s) k d ≡ bytes_of s (a + k)
unfolding seen
seen_at zero a s k d h = absurd (omega arith)
seen_at (suc n) a s zero d h = let e : a ≡ a + zero = omega arith in ap (bytes_of s) e
seen_at (suc n) a s (suc k) d h = let e : a + 1 + k ≡ a + suc k = omega arith in seen_at n (a + 1) s k d (omega arith) ∙ ap (bytes_of s) e

-- The first `i` places hold what is seen there.
abbrev pub Shows : ℕ → List ℕ → ℕ → Cells → Type 0
Shows i xs a s = (k : ℕ) → k < i → (d : ℕ) → get_or xs k d ≡ bytes_of s (a + k)

pub shows_more : (i : ℕ) (xs : List ℕ) (a b : ℕ) (s : Cells) → i < length xs → b ≡ bytes_of s (a + i) → Shows i xs a s → Shows (i + 1) (set xs i b) a s
shows_more i xs a b s h e f =
    below_more (λ k. (d : ℕ) → get_or (set xs i b) k d ≡ bytes_of s (a + k)) i
    (λ k l d. let ne : k ≢ i = omega arith in rw get_or-set_other (f k l d))
    (λ d. rw get_or-set_same e)

pub shows_all : (xs : List ℕ) (n a : ℕ) (s : Cells) → length xs ≡ n → Shows n xs a s → xs ≡ seen n a s
shows_all xs n a s e f =
    same_lists xs (seen n a s) (e ∙ sym (seen_length n a s)) (λ k d h. let l : k < n = omega arith in f k l d ∙ sym (seen_at n a s k d l))
