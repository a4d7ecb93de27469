-- A byte written to the buffer for writing of a board, and a fill of no bytes.
use Rattle.std.proofs.Common.{◌≡◌, ℕ, ◌+◌, ◌-◌, ◌*◌, ◌<◌, Bool, true, false, cond, not, ◌&&◌, eqb, ltb, List, [], ◌∷◌, add-zero, length, get_or, set, sym, ap, ◌∙◌, arith, length-set, get_or-set_other, get_or-set_same, eqb-true, refl, ◌≢◌}
use mathlib.Core.Path.{fun_ext}
use borrow.Author.Tests.{eqb-false}
use Rattle.std.proofs.lemmas.Bool.Decides.{nat_tests}
use Rattle.std.proofs.lemmas.List.{take-append-drop}
use Rattle.memory.specs.Memories.{put, stored, page_at, in_set}
use Rattle.boards.specs.Fills.{placed}
use Rattle.boards.specs.Boards.{board_mem, lengths_right, read_only}

pub set_put : (buffer : List ℕ) (a v : ℕ) → a < length buffer → (λ k. get_or (set buffer a v) k 0) ≡ put (λ k. get_or buffer k 0) a v
set_put buffer a v h = fun_ext (λ k. go k (eqb k a) refl)
  where
    go : (k : ℕ) (z : Bool) → eqb k a ≡ z → get_or (set buffer a v) k 0 ≡ cond z v (get_or buffer k 0)
    go k true e = let q : k ≡ a = eqb-true k a e in ap (λ i. get_or (set buffer a v) i 0) q ∙ rw get_or-set_same
    go k false e = let ne : k ≢ a = eqb-false k a e in rw get_or-set_other

module _ (pages : ℕ) (lower upper : List ℕ) (sealed a v : ℕ) (small : a < 65536)
    (open_page : (board_mem pages lower upper sealed).takes (page_at a) ≡ true) where
  -- A page that takes writes lies in the buffer for writing.
  pub low : a < length lower
  low = grind (arith, nat_tests, small, open_page)

  byte_at : (k : ℕ)
      → cond (lengths_right pages lower upper) (cond (ltb k (length lower)) (get_or (set lower a v) k 0) (get_or upper (k - length lower) 0)) 0
      ≡ cond ((board_mem pages lower upper sealed).takes (page_at a)) (put (board_mem pages lower upper sealed).byte a v) (board_mem pages lower upper sealed).byte k
  byte_at k =
      let l : a < length lower = low in
      let e : get_or (set lower a v) k 0 ≡ put (λ j. get_or lower j 0) a v k = ap (λ f. f k) (set_put lower a v low) in
      simp open_page (grind (arith, nat_tests, e, l))

  -- Where the page takes writes, the buffer with the byte set is the board after the write.
  pub stored_set : board_mem pages (set lower a v) upper sealed ≡ stored (board_mem pages lower upper sealed) a v
  stored_set =
      ap (λ n. record {
        byte = λ k. cond (eqb n (pages * 4096) && eqb (n + length upper) 65536) (cond (ltb k n) (get_or (set lower a v) k 0) (get_or upper (k - n) 0)) 0;
        takes = λ p. (eqb n (pages * 4096) && eqb (n + length upper) 65536) && (not (read_only pages p) && not (in_set sealed p));
      })
      (length-set lower a v)
      ∙ (λ i. record { byte = λ k. byte_at k i; takes = (board_mem pages lower upper sealed).takes })

-- No bytes, wherever they are put, leave the buffer.
pub none_placed : (buffer : List ℕ) (at : ℕ) (bytes : List ℕ) → length bytes ≡ 0 → buffer ≡ placed buffer at bytes
none_placed buffer at [] h = sym (rw add-zero (take-append-drop at buffer))
none_placed buffer at (b ∷ bytes) h = absurd (omega arith)
