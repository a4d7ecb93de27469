-- A job's answers are a function of its record, its space and the calls that name it.
use Rattle.std.proofs.Common.{◌≡◌, ℕ, Bool, true, false, cond, not, ◌&&◌, eqb, List, [], ◌∷◌, Ok, Err, sym, refl, ap, ◌∙◌, subst, eqb-true}
use borrow.Author.Tests.{eqb-false, not-true}
use Rattle.refusal.specs.declared.Ground.TheVariants.{AlreadyOpen}
use Rattle.refusal.specs.declared.Refusal.{Refusal}
use Rattle.refusal.specs.Judging.{Judgement, when, also}
use Rattle.refusal.specs.Grounds.{refusal_of}
use Rattle.memory.specs.Memories.{Mem}
use Rattle.space.specs.Cells.{Cells}
use Rattle.table.specs.Tables.{Apart}
use Rattle.pages.specs.Held.{Table, shown, back, clip}
use Rattle.std.proofs.lemmas.Bool.{both_ways}
use Rattle.pages.proofs.Spaces.{local}
use Rattle.model.specs.declared.job.Job.{Job}
use Rattle.model.specs.Jobs.{is_open, opened_job}
use Rattle.model.specs.Calls.{Call, opens, asks, names, Answer, refused, done, ends}
use Rattle.model.specs.Acts.{Left, Act, says, no_such_job, act_of}
use Rattle.model.specs.Worlds.{World, Done, space_at, settle, on_job, judge_open, unless_open, opened, does, new_world}
use Rattle.model.proofs.Settling.{upd_same, settles_answer}
use Rattle.protection.specs.Histories.{after, Said, calls_to, said_to, upto_end, endless, calls_of}
use Rattle.protection.specs.Protection.{SameOpening, SameJob, MadeByOwn, all_calls, calls_to_end}
use Rattle.protection.proofs.Asides.{shown_tells, begins}
use Rattle.protection.proofs.Lawful.{Law, act_law}
use Rattle.protection.proofs.Invariant.{Inv, inv_does, inv_new, inv_after, Leaves, call_leaves, open_all}
use Rattle.model.proofs.Answers.{refused_done}
use Rattle.std.proofs.lemmas.Bool.{and_parts}

-- What a call does to its job once that is open: an opening is refused then.
abbrev refused_opening : ℕ → Judgement
refused_opening j = also (no_such_job j) (Err (refusal_of AlreadyOpen 0))

abbrev open_again : Judgement → Act
open_again (Err e) b s = says (refused e) b s
open_again (Ok u) b s = says done b s

abbrev acts_on : Call → Act
acts_on (opens j t start) = open_again (refused_opening j)
acts_on (asks j x) = act_of j x

open_first : (j : ℕ) (z : Bool) (more : Judgement) → z ≡ true → also (no_such_job j) (also (when z AlreadyOpen) more) ≡ refused_opening j
open_first j z more e = ap (λ y. also (no_such_job j) (also (when y AlreadyOpen) more)) e

refused_open : (j : ℕ) (t : Table) (w : World) → is_open (w.jobs j).status ≡ true → judge_open j t w ≡ refused_opening j
refused_open j t w o = open_first j (is_open (w.jobs j).status) _ o

is_refused : (j : ℕ) → (e : Refusal) × (refused_opening j ≡ Err e)
is_refused j = go (no_such_job j)
  where
    go : (z : Judgement) → (e : Refusal) × (also z (Err (refusal_of AlreadyOpen 0)) ≡ Err e)
    go (Ok u) = (refusal_of AlreadyOpen 0, refl)
    go (Err e) = (e, refl)

is_act : (c : Call) (w : World) → is_open (w.jobs (names c)).status ≡ true → does c w ≡ on_job (acts_on c) (names c) w
is_act (opens j t start) w o =
    let r = is_refused j in
    ap (λ z. unless_open z j t start w) (refused_open j t w o ∙ r.1)
    ∙ sym (ap (λ z. settle j w (open_again z (w.jobs j) (space_at w j))) r.1 ∙ settles_answer j w (refused r.0))
is_act (asks j x) w o = refl

again_law : (j : ℕ) (t : Table) (start : ℕ) (b : Job) (s : Cells) (z : Judgement) → Law (ends (opens j t start)) b (open_again z b s)
again_law j t start b s (Ok u) = record { goes = λ q. (refl, refl); gone = λ q. absurd (both_ways false refl q) }
again_law j t start b s (Err e) = record { goes = λ q. (refl, refl); gone = λ q. absurd (both_ways false refl q) }

law : (c : Call) (b : Job) (s : Cells) → Law (ends c) b (acts_on c b s)
law (opens j t start) b s = again_law j t start b s (refused_opening j)
law (asks j x) b s = act_law j x b s

-- A call's outcome for its job alone.
record Solo : Type 0 where
  job : Job
  space : Cells
  answer : Answer

abbrev solo : Call → Job → Cells → Solo
solo c b s = record { job = (acts_on c b s).job; space = clip s (acts_on c b s).bytes; answer = (acts_on c b s).answer }

record Alone (j : ℕ) (c : Call) (d : Done) (x : Solo) : Type 0 where
  said : d.answer ≡ x.answer
  goes : ends c x.answer ≡ false → (d.world.jobs j ≡ x.job) × (space_at d.world j ≡ x.space) × (is_open (d.world.jobs j).status ≡ true)

alone : (c : Call) (w : World) → Inv w → is_open (w.jobs (names c)).status ≡ true → Alone (names c) c (does c w) (solo c (w.jobs (names c)) (space_at w (names c)))
alone c w I o =
    let j : ℕ = names c in
    let b : Job = w.jobs j in
    let x : Left = acts_on c b (space_at w j) in
    let L : Law (ends c) b x = law c b (space_at w j) in
    let same : (on_job (acts_on c) j w).world.jobs j ≡ x.job = upd_same w.jobs j x.job in
    subst (λ (d : Done). Alone j c d (solo c b (space_at w j))) (sym (is_act c w o))
    (record {
      said = refl;
      goes = λ e. (
        same,
        ap (λ (t : Table). shown t (back b.table x.bytes w.mem)) (ap (λ (z : Job). z.table) same ∙ (L.goes e).0) ∙ local b.table x.bytes w.mem (I.once j),
        ap (λ (z : Job). is_open z.status) same ∙ (L.goes e).1 ∙ o,
      );
    })

alone_at : (j : ℕ) (c : Call) (w : World) → Inv w → is_open (w.jobs j).status ≡ true → names c ≡ j → Alone j c (does c w) (solo c (w.jobs j) (space_at w j))
alone_at j c w I o e =
    let P : ℕ → Type 0 = λ i. is_open (w.jobs i).status ≡ true → Alone i c (does c w) (solo c (w.jobs i) (space_at w i)) in
    subst P e (alone c w I) o

-- The answers to a list of calls to the job alone, up to its end, and where they leave it.
solo_said : List Call → Job → Cells → List Said
solo_said [] b s = []
solo_said (c ∷ cs) b s = record { call = c; answer = (solo c b s).answer } ∷ cond (ends c (solo c b s).answer) [] (solo_said cs (solo c b s).job (solo c b s).space)

record Rest : Type 0 where
  job : Job
  space : Cells

solo_left : List Call → Job → Cells → Rest
solo_left [] b s = record { job = b; space = s }
solo_left (c ∷ cs) b s = solo_left cs (solo c b s).job (solo c b s).space

module _ (j : ℕ) (w : World) (I : Inv w) (o : is_open (w.jobs j).status ≡ true) (c : Call) where
  abbrev next : World
  next = (does c w).world

  abbrev mine : Solo
  mine = solo c (w.jobs j) (space_at w j)

  other_leaves : eqb (names c) j ≡ false → Leaves j w next
  other_leaves e = call_leaves c j w I (λ q. eqb-false (names c) j e (sym q))

  other_open : eqb (names c) j ≡ false → is_open (next.jobs j).status ≡ true
  other_open e = ap (λ (b : Job). is_open b.status) (other_leaves e).job ∙ o

  own_here : eqb (names c) j ≡ true → Alone j c (does c w) mine
  own_here e = alone_at j c w I o (eqb-true (names c) j e)

  -- One call of the job's own, where the list goes on so.
  said_own : (cs : List Call) → eqb (names c) j ≡ true
      → ((v : World) → Inv v → is_open (v.jobs j).status ≡ true → upto_end (said_to j cs v) ≡ solo_said (calls_to j cs) (v.jobs j) (space_at v j))
      → upto_end (record { call = c; answer = (does c w).answer } ∷ said_to j cs next) ≡ solo_said (c ∷ calls_to j cs) (w.jobs j) (space_at w j)
  unfolding upto_end solo_said
  said_own cs e rec =
      ap (λ a. record { call = c; answer = a } ∷ cond (ends c a) [] (upto_end (said_to j cs next))) (own_here e).said
      ∙ ap (λ ss. record { call = c; answer = mine.answer } ∷ ss) (go (ends c mine.answer) refl)
    where
      go : (z : Bool) → ends c mine.answer ≡ z → ◌≡◌ {A = List Said} (cond z [] (upto_end (said_to j cs next))) (cond z [] (solo_said (calls_to j cs) mine.job mine.space))
      go true q = refl
      go false q =
          let g = (own_here e).goes q in
          rec next (inv_does c w I) g.2 ∙ ap (λ b. solo_said (calls_to j cs) b (space_at next j)) g.0 ∙ ap (solo_said (calls_to j cs) mine.job) g.1

said_solo : (j : ℕ) (cs : List Call) (w : World) → Inv w → is_open (w.jobs j).status ≡ true → upto_end (said_to j cs w) ≡ solo_said (calls_to j cs) (w.jobs j) (space_at w j)
unfolding upto_end said_to calls_to solo_said
said_solo j [] w I o = refl
said_solo j (c ∷ cs) w I o = go (eqb (names c) j) refl (said_solo j cs)
  where
    go : (z : Bool) → eqb (names c) j ≡ z
        → ((v : World) → Inv v → is_open (v.jobs j).status ≡ true → upto_end (said_to j cs v) ≡ solo_said (calls_to j cs) (v.jobs j) (space_at v j))
        → upto_end (cond z (record { call = c; answer = (does c w).answer } ∷ said_to j cs (does c w).world) (said_to j cs (does c w).world))
        ≡ solo_said (cond z (c ∷ calls_to j cs) (calls_to j cs)) (w.jobs j) (space_at w j)
    go true e rec = said_own j w I o c cs e rec
    go false e rec =
        let l : Leaves j w (does c w).world = other_leaves j w I o c e in
        rec (does c w).world (inv_does c w I) (other_open j w I o c e)
        ∙ ap (λ b. solo_said (calls_to j cs) b (space_at (does c w).world j)) l.job
        ∙ ap (solo_said (calls_to j cs) (w.jobs j)) l.space

-- Where the job is left.
abbrev rest_at : World → ℕ → Rest
rest_at w j = record { job = w.jobs j; space = space_at w j }

left_solo : (j : ℕ) (cs : List Call) (w : World) → Inv w → is_open (w.jobs j).status ≡ true → endless (said_to j cs w) ≡ true
    → rest_at (after cs w) j ≡ solo_left (calls_to j cs) (w.jobs j) (space_at w j)
unfolding endless said_to calls_to solo_left after
left_solo j [] w I o q = refl
left_solo j (c ∷ cs) w I o q = go (eqb (names c) j) refl (left_solo j cs) q
  where
    go : (z : Bool) → eqb (names c) j ≡ z
        → ((v : World) → Inv v → is_open (v.jobs j).status ≡ true → endless (said_to j cs v) ≡ true → rest_at (after cs v) j ≡ solo_left (calls_to j cs) (v.jobs j) (space_at v j))
        → endless (cond z (record { call = c; answer = (does c w).answer } ∷ said_to j cs (does c w).world) (said_to j cs (does c w).world)) ≡ true
        → rest_at (after cs (does c w).world) j ≡ solo_left (cond z (c ∷ calls_to j cs) (calls_to j cs)) (w.jobs j) (space_at w j)
    go true e rec p =
        let h : Alone j c (does c w) (solo c (w.jobs j) (space_at w j)) = own_here j w I o c e in
        let n : ends c (solo c (w.jobs j) (space_at w j)).answer ≡ false
        = ap (ends c) (sym h.said) ∙ not-true (ends c (does c w).answer) ((and_parts (not (ends c (does c w).answer)) (endless (said_to j cs (does c w).world)) p).0) in
        let g = h.goes n in
        rec (does c w).world (inv_does c w I) g.2 ((and_parts (not (ends c (does c w).answer)) (endless (said_to j cs (does c w).world)) p).1)
        ∙ ap (λ b. solo_left (calls_to j cs) b (space_at (does c w).world j)) g.0
        ∙ ap (solo_left (calls_to j cs) (solo c (w.jobs j) (space_at w j)).job) g.1
    go false e rec p =
        let l : Leaves j w (does c w).world = other_leaves j w I o c e in
        rec (does c w).world (inv_does c w I) (other_open j w I o c e) p
        ∙ ap (λ b. solo_left (calls_to j cs) b (space_at (does c w).world j)) l.job
        ∙ ap (solo_left (calls_to j cs) (w.jobs j)) l.space

-- What an accepted opening leaves.
open_done : (j : ℕ) (t : Table) (start : ℕ) (w : World) → (does (opens j t start) w).answer ≡ done → ((does (opens j t start) w).world ≡ (opened j t start w).world) × Apart t
open_done j t start w =
    open_all (λ d. d.answer ≡ done → (d.world ≡ (opened j t start w).world) × Apart t) j t start w (λ o q. (refl, o.once)) (λ e q. refused_done e q)

open_left : (j : ℕ) (t : Table) (start : ℕ) (w : World) → (does (opens j t start) w).answer ≡ done
    → rest_at (does (opens j t start) w).world j ≡ record { job = opened_job t start; space = shown t (back t (λ a. 0) w.mem) }
open_left j t start w e =
    ap (λ v. rest_at v j) (open_done j t start w e).0
    ∙ ap {B = Rest} (λ (b : Job). record { job = b; space = shown b.table (back t (λ a. 0) w.mem) }) (upd_same w.jobs j (opened_job t start))

-- What was said up to the end tells whether there was one.
endless_upto : (ss : List Said) → endless (upto_end ss) ≡ endless ss
unfolding endless upto_end
endless_upto [] = refl
endless_upto (s ∷ ss) = go (ends s.call s.answer) (endless_upto ss)
  where
    go : (z : Bool) → endless (upto_end ss) ≡ endless ss → (not z && endless (cond z [] (upto_end ss))) ≡ (not z && endless ss)
    go true e = refl
    go false e = e

same_job : (j : ℕ) (v w : World) → rest_at v j ≡ rest_at w j → SameJob j v w
same_job j v w e =
    let q : v.jobs j ≡ w.jobs j = ap (λ (l : Rest). l.job) e in
    record {
      same_record = q;
      same_bytes = shown_tells (v.jobs j).table v.mem w.mem (ap (λ (l : Rest). l.space) e ∙ ap (λ (b : Job). shown b.table w.mem) (sym q));
    }

-- The calls up to the end are all that the answers come from, and all the calls where there is no end.
solo_cut : (cs : List Call) (b : Job) (s : Cells) → solo_said (calls_of (solo_said cs b s)) b s ≡ solo_said cs b s
unfolding solo_said
solo_cut [] b s = refl
solo_cut (c ∷ cs) b s =
    ap (λ ss. record { call = c; answer = (solo c b s).answer } ∷ ss) (go (ends c (solo c b s).answer) (solo_cut cs (solo c b s).job (solo c b s).space))
  where
    go : (z : Bool) → solo_said (calls_of (solo_said cs (solo c b s).job (solo c b s).space)) (solo c b s).job (solo c b s).space ≡ solo_said cs (solo c b s).job (solo c b s).space
        → ◌≡◌ {A = List Said} (cond z [] (solo_said (calls_of (cond z [] (solo_said cs (solo c b s).job (solo c b s).space))) (solo c b s).job (solo c b s).space))
        (cond z [] (solo_said cs (solo c b s).job (solo c b s).space))
    go true e = refl
    go false e = e

solo_whole : (cs : List Call) (b : Job) (s : Cells) → endless (solo_said cs b s) ≡ true → calls_of (solo_said cs b s) ≡ cs
unfolding solo_said endless
solo_whole [] b s e = refl
solo_whole (c ∷ cs) b s e = ap (λ ds. c ∷ ds) (go (ends c (solo c b s).answer) (solo_whole cs (solo c b s).job (solo c b s).space) e)
  where
    go : (z : Bool) → (endless (solo_said cs (solo c b s).job (solo c b s).space) ≡ true → calls_of (solo_said cs (solo c b s).job (solo c b s).space) ≡ cs)
        → (not z && endless (cond z [] (solo_said cs (solo c b s).job (solo c b s).space))) ≡ true
        → calls_of (cond z [] (solo_said cs (solo c b s).job (solo c b s).space)) ≡ cs
    go true h q = absurd (both_ways false refl q)
    go false h q = h q

module _ (j : ℕ) (v w : World) (I : Inv v) (J : Inv w) (o : is_open (v.jobs j).status ≡ true) (same : rest_at v j ≡ rest_at w j) (cs ds : List Call) where
  open_too : is_open (w.jobs j).status ≡ true
  open_too = sym (ap (λ (l : Rest). is_open l.job.status) same) ∙ o

  first : upto_end (said_to j cs v) ≡ solo_said (calls_to j cs) (v.jobs j) (space_at v j)
  first = said_solo j cs v I o

  second : upto_end (said_to j ds w) ≡ solo_said (calls_to j ds) (w.jobs j) (space_at w j)
  second = said_solo j ds w J open_too

  same_said : calls_to j cs ≡ calls_to j ds → upto_end (said_to j cs v) ≡ upto_end (said_to j ds w)
  same_said calls =
      first
      ∙ ap (λ (l : Rest). solo_said (calls_to j cs) l.job l.space) same
      ∙ ap (λ (es : List Call). solo_said es (w.jobs j) (space_at w j)) calls
      ∙ sym second

  same_left : calls_to j cs ≡ calls_to j ds → endless (said_to j cs v) ≡ true → endless (said_to j ds w) ≡ true → SameJob j (after cs v) (after ds w)
  same_left calls e f =
      same_job j (after cs v) (after ds w)
      (left_solo j cs v I o e
      ∙ ap (λ (l : Rest). solo_left (calls_to j cs) l.job l.space) same
      ∙ ap (λ (es : List Call). solo_left es (w.jobs j) (space_at w j)) calls
      ∙ sym (left_solo j ds w J open_too f))

  end_too : upto_end (said_to j cs v) ≡ upto_end (said_to j ds w) → endless (said_to j cs v) ≡ true → endless (said_to j ds w) ≡ true
  end_too said e = sym (endless_upto (said_to j ds w)) ∙ ap endless (sym said) ∙ endless_upto (said_to j cs v) ∙ e

  module _ (calls : calls_of (upto_end (said_to j cs v)) ≡ calls_of (upto_end (said_to j ds w))) where
    cut_said : upto_end (said_to j cs v) ≡ upto_end (said_to j ds w)
    cut_said =
        first
        ∙ sym (solo_cut (calls_to j cs) (v.jobs j) (space_at v j))
        ∙ ap (λ (es : List Call). solo_said es (v.jobs j) (space_at v j)) (sym (ap calls_of first) ∙ calls ∙ ap calls_of second)
        ∙ ap (λ (l : Rest). solo_said (calls_of (solo_said (calls_to j ds) (w.jobs j) (space_at w j))) l.job l.space) same
        ∙ solo_cut (calls_to j ds) (w.jobs j) (space_at w j)
        ∙ sym second

    cut_calls : endless (said_to j cs v) ≡ true → endless (said_to j ds w) ≡ true → calls_to j cs ≡ calls_to j ds
    cut_calls e f =
        sym (solo_whole (calls_to j cs) (v.jobs j) (space_at v j) (ap endless (sym first) ∙ endless_upto (said_to j cs v) ∙ e))
        ∙ sym (ap calls_of first)
        ∙ calls
        ∙ ap calls_of second
        ∙ solo_whole (calls_to j ds) (w.jobs j) (space_at w j) (ap endless (sym second) ∙ endless_upto (said_to j ds w) ∙ f)

-- Two accepted openings over memories that agree: the invariant holds, the job is open and the same.
module _ (m n : Mem) (before₁ before₂ : List Call) (j : ℕ) (t : Table) (start : ℕ) (s : SameOpening j t start (after before₁ (new_world m)) (after before₂ (new_world n))) where
  abbrev v₀ : World
  v₀ = after before₁ (new_world m)

  abbrev w₀ : World
  w₀ = after before₂ (new_world n)

  abbrev v₁ : World
  v₁ = (does (opens j t start) v₀).world

  abbrev w₁ : World
  w₁ = (does (opens j t start) w₀).world

  inv_first : Inv v₁
  inv_first = inv_does (opens j t start) v₀ (inv_after before₁ (new_world m) (inv_new m))

  inv_second : Inv w₁
  inv_second = inv_does (opens j t start) w₀ (inv_after before₂ (new_world n) (inv_new n))

  starts : rest_at v₁ j ≡ rest_at w₁ j
  starts =
      open_left j t start v₀ s.accepted_first
      ∙ ap {B = Rest} (λ (p : Cells). record { job = opened_job t start; space = p }) (begins t v₀.mem w₀.mem (open_done j t start v₀ s.accepted_first).1 s.same_takes s.same_fixed)
      ∙ sym (open_left j t start w₀ s.accepted_second)

  is_open_lem : is_open (v₁.jobs j).status ≡ true
  is_open_lem = ap (λ (l : Rest). is_open l.job.status) (open_left j t start v₀ s.accepted_first)

pub own_calls : MadeByOwn all_calls
own_calls m n b₁ b₂ j t start s cs ds calls =
    let v : World = v₁ m n b₁ b₂ j t start s in
    let w : World = w₁ m n b₁ b₂ j t start s in
    let I : Inv v = inv_first m n b₁ b₂ j t start s in
    let J : Inv w = inv_second m n b₁ b₂ j t start s in
    let o : is_open (v.jobs j).status ≡ true = is_open_lem m n b₁ b₂ j t start s in
    let same : rest_at v j ≡ rest_at w j = starts m n b₁ b₂ j t start s in
    let said : upto_end (said_to j cs v) ≡ upto_end (said_to j ds w) = same_said j v w I J o same cs ds calls in
    (said, λ e. same_left j v w I J o same cs ds calls e (end_too j v w I J o same cs ds said e))

pub own_calls_to_end : MadeByOwn calls_to_end
own_calls_to_end m n b₁ b₂ j t start s cs ds calls =
    let v : World = v₁ m n b₁ b₂ j t start s in
    let w : World = w₁ m n b₁ b₂ j t start s in
    let I : Inv v = inv_first m n b₁ b₂ j t start s in
    let J : Inv w = inv_second m n b₁ b₂ j t start s in
    let o : is_open (v.jobs j).status ≡ true = is_open_lem m n b₁ b₂ j t start s in
    let same : rest_at v j ≡ rest_at w j = starts m n b₁ b₂ j t start s in
    let said : upto_end (said_to j cs v) ≡ upto_end (said_to j ds w) = cut_said j v w I J o same cs ds calls in (
      said,
      λ e. let f : endless (said_to j ds w) ≡ true = end_too j v w I J o same cs ds said e in
          same_left j v w I J o same cs ds (cut_calls j v w I J o same cs ds calls e f) e f,
    )
