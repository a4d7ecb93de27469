-- What a list of calls on a new engine keeps: no table names a page twice, a page that two jobs hold takes no writes, and only the eight jobs hold any.
use Rattle.std.proofs.Common.{◌≡◌, ℕ, ◌<◌, ◌≤◌, Bool, true, false, cond, not, ◌&&◌, eqb, ltb, ◌≢◌, List, [], ◌∷◌, get_or, replicate, is_some, Ok, Err, sym, refl, ap, ◌∙◌, subst, arith, ne_eqb, eqb-true, ⊎_elim}
use borrow.Author.Tests.{eqb-false}
use Rattle.std.proofs.lemmas.Bool.{ltb-false, and_from, false_from_ne_true}
use Rattle.refusal.specs.declared.Ground.TheVariants.{AlreadyOpen, ReservedBits, PageNamedTwice, PageNotWritable, PageHeld}
use Rattle.refusal.specs.declared.Refusal.{Refusal}
use Rattle.refusal.specs.Judging.{Judgement, when, at, first_from}
use Rattle.refusal.proofs.Searches.{none_passes, passes}
use Rattle.memory.specs.Memories.{Mem}
use Rattle.space.specs.Cells.{Cells}
use Rattle.table.specs.Tables.{Apart, entry_of, access_in}
use Rattle.pages.specs.Held.{Table, page_of, shown, holds, back}
use Rattle.pages.specs.Entries.{reserved_at, again_at, fixed_at}
use Rattle.std.proofs.lemmas.Bool.{both_ways, cases_Bool}
use Rattle.pages.proofs.Spaces.{access_low, holds_at}
use Rattle.model.specs.declared.job.Job.{Job}
use Rattle.model.specs.Jobs.{closed_job, opened_job, is_open}
use Rattle.model.specs.Calls.{Call, opens, asks, names, Answer, refused, ends}
use Rattle.model.specs.Acts.{Left, Act, no_such_job, act_of}
use Rattle.model.specs.Worlds.{World, Done, space_at, upd, on_job, any, held_by, held_at, judge_open, opened, unless_open, does, no_job, new_world}
use Rattle.model.proofs.Settling.{upd_other}
use Rattle.model.proofs.Tables.{once_apart, any_more}
use Rattle.protection.specs.Histories.{after}
use Rattle.protection.proofs.Asides.{Aside, aside_sym, aside}
use Rattle.protection.proofs.Lawful.{Law, act_law}
use Rattle.refusal.proofs.Judgements.{passed, when_no, nowhere}
use Rattle.model.proofs.Seats.{seats, replicated}

pub upd_all : (f : ℕ → Job) (i : ℕ) (b : Job) (k : ℕ) (Q : Job → Type 0) → (k ≡ i → Q b) → (k ≢ i → Q (f k)) → Q (upd f i b k)
upd_all f i b k Q h g = go (eqb k i) refl
  where
    go : (z : Bool) → eqb k i ≡ z → Q (cond z b (f k))
    go true e = h (eqb-true k i e)
    go false e = g (eqb-false k i e)

pub record Inv (w : World) : Type 0 where
  pub once : (j : ℕ) → Apart (w.jobs j).table
  pub aside : (i j : ℕ) → i ≢ j → Aside w.mem (w.jobs i).table (w.jobs j).table
  pub low : (j i : ℕ) → access_in (entry_of (w.jobs j).table i) ≡ true → j < 8

-- A table that may stand at the number `j`.
record Fits (w : World) (j : ℕ) (t : Table) : Type 0 where
  once : Apart t
  aside : (i : ℕ) → i ≢ j → Aside w.mem t (w.jobs i).table
  low : (i : ℕ) → access_in (entry_of t i) ≡ true → j < 8

inv_put : (w : World) → Inv w → (j : ℕ) (b : Job) (t : Table) (bs : ℕ → ℕ) → Fits w j b.table → Inv (record { jobs = upd w.jobs j b; mem = back t bs w.mem })
inv_put w I j b t bs h = record {
  once = λ k. upd_all w.jobs j b k (λ x. Apart x.table) (λ e. h.once) (λ e. I.once k);
  aside = λ k l ne.
      upd_all w.jobs j b k (λ x. Aside w.mem x.table (upd w.jobs j b l).table)
      (λ e. upd_all w.jobs j b l (λ x. Aside w.mem b.table x.table) (λ q. absurd (ne (e ∙ sym q))) (λ q. h.aside l q))
      (λ e. upd_all w.jobs j b l (λ x. Aside w.mem (w.jobs k).table x.table) (λ q. aside_sym w.mem b.table (w.jobs k).table (h.aside k e)) (λ q. I.aside k l ne));
  low = λ k. upd_all w.jobs j b k (λ x. (i : ℕ) → access_in (entry_of x.table i) ≡ true → k < 8) (λ e i a. subst (λ n. n < 8) (sym e) (h.low i a)) (λ e. I.low k);
}

-- A closed record has a table without access.
shut_access : (i : ℕ) → access_in (entry_of closed_job.table i) ≡ false
shut_access i = let e : ◌≡◌ {A = ℕ} (get_or (replicate 15 0) i 0) 0 = replicated 0 15 i in grind arith

fits_shut : (w : World) (j : ℕ) → Fits w j closed_job.table
fits_shut w j = record {
  once = λ i l h. absurd (both_ways (access_in (entry_of closed_job.table i)) (shut_access i) h.0);
  aside = λ k e i l a. absurd (both_ways (access_in (entry_of closed_job.table i)) (shut_access i) a);
  low = λ i a. absurd (both_ways (access_in (entry_of closed_job.table i)) (shut_access i) a);
}

fits_self : (w : World) → Inv w → (j : ℕ) → Fits w j (w.jobs j).table
fits_self w I j = record { once = I.once j; aside = λ i e. I.aside j i (λ q. e (sym q)); low = I.low j }

-- Any lawful act keeps it.
inv_act : (over : Answer → Bool) (f : Act) → ((b : Job) (s : Cells) → Law over b (f b s)) → (j : ℕ) (w : World) → Inv w → Inv (on_job f j w).world
inv_act over f law j w I =
    let x : Left = f (w.jobs j) (space_at w j) in
    let L : Law over (w.jobs j) x = law (w.jobs j) (space_at w j) in
    inv_put w I j x.job (w.jobs j).table x.bytes
    (⊎_elim
    (λ e. subst (λ (b : Job). Fits w j b.table) (sym (L.gone e)) (fits_shut w j))
    (λ e. subst (λ (t : Table). Fits w j t) (sym (L.goes e).0) (fits_self w I j))
    (cases_Bool (over x.answer)))

-- What is left of a job that a call does not name: its record and its space.
pub record Leaves (i : ℕ) (v w : World) : Type 0 where
  pub job : w.jobs i ≡ v.jobs i
  pub space : space_at w i ≡ space_at v i

put_leaves : (w : World) (j i : ℕ) (b : Job) (t : Table) (bs : ℕ → ℕ) → i ≢ j → Aside w.mem t (w.jobs i).table
    → Leaves i w (record { jobs = upd w.jobs j b; mem = back t bs w.mem })
put_leaves w j i b t bs ne h =
    let same : upd w.jobs j b i ≡ w.jobs i = upd_other w.jobs j b i ne in
    record { job = same; space = ap (λ (x : Job). shown x.table (back t bs w.mem)) same ∙ aside t (w.jobs i).table bs w.mem h }

-- What an accepted opening says.
pub record Opens (j : ℕ) (t : Table) (w : World) : Type 0 where
  pub low : j < 8
  pub once : Apart t
  pub free : (s : ℕ) → s < 15 → held_at w.jobs w.mem.takes j t s ≡ false

pub open_says : (j : ℕ) (t : Table) (w : World) → judge_open j t w ≡ Ok tt → Opens j t w
open_says j t w p =
    let one = passed (no_such_job j) _ p in
    let two = passed (when (is_open (w.jobs j).status) AlreadyOpen) _ one.1 in
    let three = passed (at ReservedBits (first_from 15 0 (reserved_at t))) _ two.1 in
    let four = passed (at PageNamedTwice (first_from 15 0 (again_at t))) _ three.1 in
    let five = passed (at PageNotWritable (first_from 15 0 (fixed_at t w.mem.takes))) _ four.1 in
    let six = passed (at PageHeld (first_from 15 0 (held_at w.jobs w.mem.takes j t))) _ five.1 in
    record {
      low = (let h : j ≤ 7 = ltb-false 7 j (when_no (ltb 7 j) _ one.0) in omega arith);
      once = once_apart t (ap is_some (nowhere PageNamedTwice (first_from 15 0 (again_at t)) four.0));
      free = λ s h. none_passes (held_at w.jobs w.mem.takes j t) 15 0 (nowhere PageHeld (first_from 15 0 (held_at w.jobs w.mem.takes j t)) six.0) s (omega arith) (omega arith);
    }

-- `any`, by one that passes.
any_at : (n : ℕ) (f : ℕ → Bool) (k : ℕ) → k < n → f k ≡ true → any n f ≡ true
unfolding any
any_at n f k h e = passes f (λ n. any n f) refl (λ n. any_more n f) n k h e

-- A table whose pages no other job holds, unless they take no writes.
free_aside : (j : ℕ) (t : Table) (w : World) → Inv w → Opens j t w → (k : ℕ) → k ≢ j → Aside w.mem t (w.jobs k).table
unfolding held_by
free_aside j t w I o k ne i l a b e =
    false_from_ne_true (w.mem.takes (page_of t i)) (λ q.
    let held : held_by 8 w.jobs j (page_of t i) ≡ true =
    any_at 8 (λ n. not (eqb n j) && holds (w.jobs n).table (page_of t i)) k (I.low k l b)
    (and_from (not (eqb k j)) (holds (w.jobs k).table (page_of t i)) (ap not (ne_eqb k j ne)) (ap (holds (w.jobs k).table) e ∙ holds_at (w.jobs k).table l b)) in
    absurd (both_ways (held_at w.jobs w.mem.takes j t i)
    (o.free i (access_low t i a))
    (and_from (access_in (entry_of t i)) (w.mem.takes (page_of t i) && held_by 8 w.jobs j (page_of t i)) a (and_from (w.mem.takes (page_of t i)) (held_by 8 w.jobs j (page_of t i)) q held))))

-- An opening is accepted, with what that says, or leaves the world.
pub open_all : (Q : Done → Type 0) (j : ℕ) (t : Table) (start : ℕ) (w : World)
    → (Opens j t w → Q (opened j t start w)) → ((e : Refusal) → Q (record { world = w; answer = refused e })) → Q (does (opens j t start) w)
open_all Q j t start w h g = go (judge_open j t w) refl
  where
    go : (z : Judgement) → judge_open j t w ≡ z → Q (unless_open z j t start w)
    go (Ok u) e = h (open_says j t w e)
    go (Err r) e = g r

inv_open : (j : ℕ) (t : Table) (start : ℕ) (w : World) → Inv w → Inv (does (opens j t start) w).world
inv_open j t start w I =
    open_all (λ d. Inv d.world) j t start w
    (λ o. inv_put w I j (opened_job t start) t (λ a. 0) (record { once = o.once; aside = free_aside j t w I o; low = λ i a. o.low }))
    (λ e. I)

open_leaves : (i j : ℕ) (t : Table) (start : ℕ) (w : World) → Inv w → i ≢ j → Leaves i w (does (opens j t start) w).world
open_leaves i j t start w I ne =
    open_all (λ d. Leaves i w d.world) j t start w
    (λ o. put_leaves w j i (opened_job t start) t (λ a. 0) ne (free_aside j t w I o i ne))
    (λ e. record { job = refl; space = refl })

-- Every call keeps it, and leaves the jobs that it does not name.
pub inv_does : (c : Call) (w : World) → Inv w → Inv (does c w).world
inv_does (opens j t start) w I = inv_open j t start w I
inv_does (asks j x) w I = inv_act (ends (asks j x)) (act_of j x) (act_law j x) j w I

pub call_leaves : (c : Call) (i : ℕ) (w : World) → Inv w → i ≢ names c → Leaves i w (does c w).world
call_leaves (opens j t start) i w I ne = open_leaves i j t start w I ne
call_leaves (asks j x) i w I ne =
    put_leaves w j i (act_of j x (w.jobs j) (space_at w j)).job (w.jobs j).table (act_of j x (w.jobs j) (space_at w j)).bytes ne (I.aside j i (λ q. ne (sym q)))

-- A new engine has it.
all_shut : (k i : ℕ) → access_in (entry_of (get_or (replicate 8 closed_job) k no_job).table i) ≡ false
all_shut k i = seats (λ b. access_in (entry_of b.table i) ≡ false) (shut_access i) (none i) 8 k
  where
    none : (i : ℕ) → access_in (entry_of [] i) ≡ false
    none i = grind arith

pub inv_new : (m : Mem) → Inv (new_world m)
inv_new m = record {
  once = λ j i l h. absurd (both_ways (access_in (entry_of ((new_world m).jobs j).table i)) (all_shut j i) h.0);
  aside = λ i j ne n l a. absurd (both_ways (access_in (entry_of ((new_world m).jobs i).table n)) (all_shut i n) a);
  low = λ j i a. absurd (both_ways (access_in (entry_of ((new_world m).jobs j).table i)) (all_shut j i) a);
}

pub inv_after : (cs : List Call) (w : World) → Inv w → Inv (after cs w)
unfolding after
inv_after [] w I = I
inv_after (c ∷ cs) w I = inv_after cs (does c w).world (inv_does c w I)
