-- What the twin board means as a memory.
use Rattle.std.specs.Prelude.{ℕ, ◌-◌, Bool, cond, not, ◌&&◌, List, length, ◌==◌, nat_lt, slice_index}
use Rattle.memory.specs.Memories.{Mem, in_set}

-- Of either buffer.
abbrev pub twin_size : ℕ
twin_size = 32768

-- The pages of the buffer for reading: 8 to 15.
abbrev pub upper_page : ℕ → Bool
upper_page p = nat_lt 7 p

abbrev pub both_right : List ℕ → List ℕ → Bool
both_right lower upper = length lower == twin_size && length upper == twin_size

-- The bytes of the one buffer and then of the other, and the lower pages that are not sealed take writes; if either has another length zeros, and no page does.
abbrev pub twin_mem : List ℕ → List ℕ → ℕ → Mem
twin_mem lower upper sealed = record {
  byte = λ k. cond (both_right lower upper) (cond (nat_lt k twin_size) (slice_index lower k) (slice_index upper (k - twin_size))) 0;
  takes = λ p. both_right lower upper && (not (upper_page p) && not (in_set sealed p));
}
