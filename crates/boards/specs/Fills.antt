-- What a fill answers, and the buffer after it.
use Rattle.std.specs.Prelude.{ℕ, ◌+◌, ◌*◌, Bool, not, ◌&&◌, List, [], ◌∷◌, ◌++◌, length, take, drop, None, ◌==◌, nat_le, nat_lt}
use Rattle.refusal.specs.declared.Ground.TheVariants.{WrongLength, OutOfRange, NoWrites}
use Rattle.refusal.specs.Judging.{Judgement, when, at, first, picked, unless_refused}

-- The grounds of a fill in their order; the last two have the offset as their place.
abbrev pub judged_fill : (right closed : Bool) (offset count : ℕ) → Judgement
judged_fill right closed offset count = first
    (when (not right) WrongLength
    ∷ at OutOfRange (picked (nat_lt 4096 (offset + count)) offset None)
    ∷ at NoWrites (picked (closed && nat_lt 0 count) offset None)
    ∷ [])

-- The buffer with the bytes from `place` on, and every other byte as it was.
abbrev pub placed : List ℕ → ℕ → List ℕ → List ℕ
placed buffer place bytes = take place buffer ++ (bytes ++ drop (place + length bytes) buffer)

-- A fill over a buffer that should have so many pages: the others take no fill.
abbrev pub fill_answer : (pages : ℕ) → List ℕ → (page offset : ℕ) → List ℕ → Judgement
fill_answer pages buffer page offset bytes = judged_fill (length buffer == pages * 4096) (nat_le pages page) offset (length bytes)

-- The buffer after it: as it was where the fill is refused.
abbrev pub filled : Judgement → List ℕ → (page offset : ℕ) → List ℕ → List ℕ
filled answer buffer page offset bytes = unless_refused answer buffer (placed buffer (page * 4096 + offset) bytes)
