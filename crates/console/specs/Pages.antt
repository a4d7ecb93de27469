-- The pages that a line names by their numbers.
use Rattle.std.specs.Prelude.{◌≡◌, ℕ, ◌<◌, Bool, true, false, ◌&&◌, ◌||◌, List, [], ◌∷◌, Ok, Err, Result, ◌==◌, nat_lt}
use Rattle.refusal.specs.declared.Refusal.{Refusal}
use Rattle.refusal.specs.declared.Ground.TheVariants.{OutOfRange}
use Rattle.refusal.specs.Grounds.{refusal_of}
use Rattle.memory.specs.declared.sets.PageSet.{PageSet}
use Rattle.memory.specs.Memories.{in_set}

-- Whether a number is among some.
unfoldable pub among : ℕ → List ℕ → Bool
among p [] = false
among p (n ∷ ns) = p == n || among p ns

-- Whether all are numbers of pages.
unfoldable pub all_pages : List ℕ → Bool
all_pages [] = true
all_pages (n ∷ ns) = nat_lt n 16 && all_pages ns

-- The set of exactly these pages, or the refusal where one of them is none.
abbrev pub Gathered : List ℕ → Result PageSet Refusal → Type 0
Gathered ns (Ok s) = (all_pages ns ≡ true) × ((p : ℕ) → p < 16 → in_set s.mask p ≡ among p ns)
Gathered ns (Err e) = (all_pages ns ≡ false) × (e ≡ refusal_of OutOfRange 0)
