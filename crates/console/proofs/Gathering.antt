-- The numbers that are left of a list, one at a time.
use Rattle.std.proofs.Common.{◌≡◌, ℕ, ◌+◌, ◌<◌, ◌&&◌, ◌||◌, nat_eq, nat_lt, List, ◌∷◌, length, get_or, drop, Ok, Err, true, false, ap, add-one, arith, drop-cons}
use Rattle.std.proofs.lemmas.Bool.Decides.{nat_tests}
use Rattle.refusal.specs.declared.Refusal.{Refusal}
use Rattle.refusal.specs.declared.Ground.TheVariants.{OutOfRange}
use Rattle.refusal.specs.Grounds.{refusal_of}
use Rattle.memory.specs.Memories.{sixteenth}
use Rattle.console.specs.Pages.{among, all_pages}

pub from_index : (l : List ℕ) (i : ℕ) → i < length l → drop i l ≡ get_or l i 0 ∷ drop (i + 1) l
from_index l i h = rw (add-one, drop-cons l i 0)

pub among_from : (p : ℕ) (l : List ℕ) (i : ℕ) → i < length l → among p (drop i l) ≡ (nat_eq p (get_or l i 0) || among p (drop (i + 1) l))
unfolding among
among_from p l i h = ap (among p) (from_index l i h)

pub all_from : (l : List ℕ) (i : ℕ) → i < length l → all_pages (drop i l) ≡ (nat_lt (get_or l i 0) 16 && all_pages (drop (i + 1) l))
unfolding all_pages
all_from l i h = ap all_pages (from_index l i h)

-- A page that was made has the number given, which is below sixteen; one that was not, has not.
pub page_made : (n k : ℕ) → Ok k ≡ sixteenth n → (nat_lt n 16 ≡ true) × (k ≡ n)
page_made n k h = grind (arith, nat_tests)

pub page_refused : (n : ℕ) (d : Refusal) → Err d ≡ sixteenth n → (nat_lt n 16 ≡ false) × (d ≡ refusal_of OutOfRange 0)
page_refused n d h = grind (arith, nat_tests)
