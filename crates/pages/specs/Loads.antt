-- What a load refuses, and the memory that it leaves.
use Rattle.std.specs.Prelude.{ℕ, ◌+◌, ◌-◌, cond, ◌&&◌, List, [], ◌∷◌, length, None, Option, nat_le, nat_lt, slice_index}
use Rattle.refusal.specs.declared.Ground.TheVariants.{OutOfRange, NoAccess, NoWrites}
use Rattle.refusal.specs.Judging.{Judgement, at, first, unless_refused, picked, first_from}
use Rattle.memory.specs.Memories.{Mem}
use Rattle.space.specs.Cells.{Cells}
use Rattle.pages.specs.Held.{Table, shown, bytes_of, back}
use Rattle.pages.specs.Entries.{shut_at, refuses_at}

-- Past the end of the addresses: the place is the address given.
abbrev pub past : ℕ → ℕ → Option ℕ
past a count = picked (nat_lt 65536 (a + count)) a None

-- Each ground is judged over all bytes before the next.
abbrev pub judge_load : ℕ → List ℕ → Cells → Judgement
judge_load a bs s =
    first (at OutOfRange (past a (length bs))
    ∷ at NoAccess (first_from (length bs) a (shut_at s))
    ∷ at NoWrites (first_from (length bs) a (refuses_at s))
    ∷ [])

-- The first `n` bytes from `a` on are the given ones, and the others as they were.
unfoldable pub laid_to : ℕ → ℕ → List ℕ → (ℕ → ℕ) → ℕ → ℕ
laid_to n a bs m x = cond (nat_le a x && nat_lt x (a + n)) (slice_index bs (x - a)) (m x)

abbrev pub laid : ℕ → List ℕ → (ℕ → ℕ) → ℕ → ℕ
laid a bs m = laid_to (length bs) a bs m

abbrev pub loaded_mem : Table → ℕ → List ℕ → Mem → Mem
loaded_mem t a bs m = unless_refused (judge_load a bs (shown t m)) m (back t (laid a bs (bytes_of (shown t m))) m)
