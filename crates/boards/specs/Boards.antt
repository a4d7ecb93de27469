-- What a board means as a memory.
use Rattle.std.specs.Prelude.{ℕ, ◌+◌, ◌-◌, ◌*◌, Bool, cond, not, ◌&&◌, List, length, ◌==◌, nat_le, nat_lt, slice_index, slice_set}
use Rattle.memory.specs.Memories.{Mem, in_set, page_at}
use Rattle.boards.specs.declared.board.Board.{Board}

-- The buffer for writing has so many pages, and both have sixteen.
abbrev pub lengths_right : ℕ → List ℕ → List ℕ → Bool
lengths_right pages lower upper = length lower == pages * 4096 && length lower + length upper == 65536

-- The pages of the buffer for reading, if it has any.
abbrev pub read_only : ℕ → ℕ → Bool
read_only pages p = nat_lt pages 16 && nat_le pages p

-- The bytes of the one buffer and then of the other, and the pages of the first that are not sealed take writes; if either has another length zeros, and no page does.
abbrev pub board_mem : ℕ → List ℕ → List ℕ → ℕ → Mem
board_mem pages lower upper sealed = record {
  byte = λ k. cond (lengths_right pages lower upper) (cond (nat_lt k (length lower)) (slice_index lower k) (slice_index upper (k - length lower))) 0;
  takes = λ p. lengths_right pages lower upper && (not (read_only pages p) && not (in_set sealed p));
}

abbrev pub shows : {pages : ℕ} → Board pages → Mem
shows {pages} board = board_mem pages board.lower.now board.upper.now board.sealed.mask

-- The buffer for writing itself after a write, whatever its length: the byte is set where the page takes writes, and else nothing is.
abbrev pub written : Mem → List ℕ → (at b : ℕ) → List ℕ
written m buffer at b = cond (m.takes (page_at at)) (slice_set buffer at b) buffer
