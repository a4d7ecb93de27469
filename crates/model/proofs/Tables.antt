-- Tables that name no page twice, and the loop over the jobs.
use Rattle.std.proofs.lemmas.Bool.{and_from}
use Rattle.std.proofs.Common.{◌≡◌, ℕ, ◌+◌, ◌<◌, Bool, true, false, not, ◌&&◌, ◌||◌, eqb, is_some, Some, None, Option, sym, refl, add-one, arith}
use Rattle.refusal.specs.Judging.{first_from}
use Rattle.refusal.proofs.Searches.{none_passes}
use Rattle.table.specs.Tables.{Apart, entry_of, access_in}
use Rattle.pages.specs.Held.{Table, page_of, named, holds}
use Rattle.pages.specs.Entries.{again_at}
use Rattle.std.proofs.lemmas.Bool.{both_ways}
use Rattle.pages.proofs.Spaces.{named_at, access_low}
use Rattle.model.specs.declared.job.Job.{Job}
use Rattle.model.specs.Worlds.{any, held_by, twice}

none_there : (o : Option ℕ) → is_some o ≡ false → o ≡ None
none_there (Some n) e = absurd (both_ways true e refl)
none_there None e = refl

no_lower : (t : Table) → twice t ≡ false → (i l : ℕ) → i < l → access_in (entry_of t i) ≡ true → access_in (entry_of t l) ≡ true → page_of t i ≡ page_of t l → ⊥
no_lower t one i l h a b e =
    absurd (both_ways (again_at t l)
    (let low : l < 15 = access_low t l b in none_passes (again_at t) 15 0 (none_there (first_from 15 0 (again_at t)) one) l (omega arith) (omega arith))
    (and_from (access_in (entry_of t l)) (named l t (page_of t l)) b (named_at l t (page_of t l) i (record { low = h; access = a; page = e }))))

pub once_apart : (t : Table) → twice t ≡ false → Apart t
once_apart t one i l h =
    let g : ¬ (i < l) = λ q. no_lower t one i l q h.0 h.1 h.2 in
    let k : ¬ (l < i) = λ q. no_lower t one l i q h.1 h.0 (sym h.2) in
    omega arith

pub any_more : (n : ℕ) (f : ℕ → Bool) → any (n + 1) f ≡ (f n || any n f)
unfolding any
any_more n f = rw add-one

pub held_none : (jobs : ℕ → Job) (j p : ℕ) → held_by 0 jobs j p ≡ false
unfolding held_by any
held_none jobs j p = refl

pub held_more : (n : ℕ) (jobs : ℕ → Job) (j p : ℕ) → held_by (n + 1) jobs j p ≡ ((not (eqb n j) && holds (jobs n).table p) || held_by n jobs j p)
unfolding held_by
held_more n jobs j p = any_more n (λ k. not (eqb k j) && holds (jobs k).table p)
