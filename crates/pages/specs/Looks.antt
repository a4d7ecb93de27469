-- What a look refuses, and the bytes that it shows.
use Rattle.std.specs.Prelude.{ℕ, zero, suc, ◌+◌, List, [], ◌∷◌}
use Rattle.refusal.specs.declared.Ground.TheVariants.{OutOfRange, NoAccess}
use Rattle.refusal.specs.Judging.{Judgement, at, first, first_from}
use Rattle.space.specs.Cells.{Cells}
use Rattle.pages.specs.Entries.{shut_at}
use Rattle.pages.specs.Loads.{past}

abbrev pub judge_look : ℕ → ℕ → Cells → Judgement
judge_look a count s =
    first (at OutOfRange (past a count)
    ∷ at NoAccess (first_from count a (shut_at s))
    ∷ [])

-- So many bytes from an address on.
unfoldable pub seen : ℕ → ℕ → Cells → List ℕ
seen zero a s = []
seen (suc count) a s = (s a).byte ∷ seen count (a + 1) s
