-- What is held for a job, before and after a call.
use Rattle.std.proofs.Common.{◌≡◌, ℕ, ◌<◌, ◌≤◌, Bool, true, false, cond, not, ◌&&◌, eqb, ltb, ◌≢◌, List, length, get_or, set, Some, None, Ok, Err, Option, sym, refl, ap, ◌∙◌, subst, arith, get_or-set_other, get_or-set_same, ltb-true, eq-eqb, eqb-true, ⊎_elim}
use borrow.Author.Tests.{eqb-false}
use Rattle.std.proofs.lemmas.Bool.{ltb-false, not-true, and_left, and_right, and_parts}
use Rattle.refusal.specs.declared.Refusal.{Refusal}
use Rattle.std.proofs.lemmas.Bool.{both_ways, cases_Bool}
use Rattle.model.specs.declared.job.Job.{Job}
use Rattle.model.specs.Jobs.{closed_job, is_waiting}
use Rattle.model.specs.Calls.{Owed}
use Rattle.model.specs.Acts.{judge_receipt}
use Rattle.model.specs.Worlds.{upd}
use Rattle.engine.specs.declared.receipt.Receipt.{Receipt}
use Rattle.engine.specs.Answers.{owed_of}
use Rattle.engine.proofs.Receipts.{Waits, accepted, unowed}
use Rattle.desk.specs.Held.{number_in, fitting}
use Rattle.desk.specs.Owing.{owed_to, owed_as, released}
use Rattle.std.proofs.lemmas.List.{get_or_past}
use Rattle.std.proofs.lemmas.Option.{none-some}

pub held_waits : (j : ℕ) (b : Job) (r : Receipt) → owed_to j b (Some r) ≡ true → Waits j b r.job r.number
held_waits j b r h =
    let parts = and_parts (is_waiting b.status) (eqb r.job j && eqb r.number b.calls) h in
    let rest = and_parts (eqb r.job j) (eqb r.number b.calls) parts.1 in
    record { waiting = parts.0; job = eqb-true r.job j rest.0; number = eqb-true r.number b.calls rest.1 }

pub none_idle : (j : ℕ) (b : Job) → owed_to j b None ≡ true → is_waiting b.status ≡ false
none_idle j b h = not-true (is_waiting b.status) h

-- The engine refuses a receipt that is not held.
pub refused_receipt : (j n : ℕ) (b : Job) (x : Option Receipt) → owed_to j b x ≡ true → None ≡ fitting n x → (d : Refusal) × (judge_receipt j n b ≡ Err d)
refused_receipt j n b None h f = unowed j n b (and_left (is_waiting b.status) (eqb b.calls n) (none_idle j b h))
refused_receipt j n b (Some r) h f = go (eqb r.number n) refl
  where
    go : (z : Bool) → eqb r.number n ≡ z → (d : Refusal) × (judge_receipt j n b ≡ Err d)
    go true e = absurd (none-some r (f ∙ ap (λ z. cond z (Some r) None) e))
    go false e =
        unowed j n b (and_right (is_waiting b.status) (eqb b.calls n) (ap (λ k. eqb k n) (sym (held_waits j b r h).number) ∙ e))

-- A receipt that was taken out: its job waits for it, and the engine accepts it.
pub record Taken (f : ℕ → Job) (rs : List (Option Receipt)) (j n : ℕ) (r : Receipt) : Type 0 where
  pub low : j < 8
  pub job : r.job ≡ j
  pub number : r.number ≡ n
  pub judged : judge_receipt j n (f j) ≡ Ok tt

fitted : (n : ℕ) (x : Option Receipt) (r : Receipt) → Some r ≡ fitting n x → (x ≡ Some r) × (r.number ≡ n)
fitted n None r p = absurd (none-some r (sym p))
fitted n (Some q) r p = go (eqb q.number n) refl
  where
    go : (z : Bool) → eqb q.number n ≡ z → (Some q ≡ Some r) × (r.number ≡ n)
    go true e =
        let same : Some r ≡ Some q = p ∙ ap (λ z. cond z (Some q) None) e in
        let is : r ≡ q = cc in
        (sym same, ap (λ (x : Receipt). x.number) is ∙ eqb-true q.number n e)
    go false e = absurd (none-some r (sym (p ∙ ap (λ z. cond z (Some q) None) e)))

pub taken : (f : ℕ → Job) (rs : List (Option Receipt)) (j n : ℕ) (r : Receipt) → ((k : ℕ) → owed_to k (f k) (get_or rs k None) ≡ true) → length rs ≡ 8
    → Some r ≡ fitting n (get_or rs j None) → Taken f rs j n r
taken f rs j n r h len p =
    let there = fitted n (get_or rs j None) r p in
    let w : Waits j (f j) r.job r.number = held_waits j (f j) r (subst (λ (x : Option Receipt). owed_to j (f j) x ≡ true) there.0 (h j)) in
    let low : j < 8 = ⊎_elim (λ e. ltb-true j 8 e)
    (λ e. absurd (none-some r (sym (get_or_past rs j None (let k : 8 ≤ j = ltb-false j 8 e in omega (arith, len))) ∙ there.0)))
    (cases_Bool (ltb j 8)) in
    record { low = low; job = w.job; number = there.1; judged = accepted j n (f j) low w.waiting (sym there.1 ∙ w.number) }

-- The number that is held is one that the engine accepts.
pub record Owes (b : Job) (j n : ℕ) : Type 0 where
  pub waiting : is_waiting b.status ≡ true
  pub judged : judge_receipt j n b ≡ Ok tt

pub owes : (f : ℕ → Job) (rs : List (Option Receipt)) (j n : ℕ) → ((k : ℕ) → owed_to k (f k) (get_or rs k None) ≡ true) → length rs ≡ 8
    → Some n ≡ number_in (get_or rs j None) → Owes (f j) j n
owes f rs j n h len p = go (get_or rs j None) refl
  where
    go : (x : Option Receipt) → get_or rs j None ≡ x → Owes (f j) j n
    go None e = absurd (none-some n (sym (p ∙ ap number_in e)))
    go (Some r) e =
        let same : Some n ≡ Some r.number = p ∙ ap number_in e in
        let is : r.number ≡ n = cc in
        let fits : Some r ≡ fitting n (get_or rs j None) = sym (ap (fitting n) e ∙ ap (λ z. cond z (Some r) None) (eq-eqb r.number n is)) in
        record {
          waiting = (held_waits j (f j) r (subst (λ (x : Option Receipt). owed_to j (f j) x ≡ true) e (h j))).waiting;
          judged = (taken f rs j n r h len fits).judged;
        }

-- A job that does not wait is held nothing for.
pub idle_none : (j : ℕ) (b : Job) (x : Option Receipt) → is_waiting b.status ≡ false → owed_to j b x ≡ true → x ≡ None
idle_none j b None h e = refl
idle_none j b (Some r) h e = absurd (both_ways (is_waiting b.status) h (held_waits j b r e).waiting)

-- A receipt that is held is of its job.
pub whole_owed : (j : ℕ) (b : Job) (x : Option Receipt) → owed_to j b x ≡ true → owed_as j (number_in x) ≡ owed_of x
whole_owed j b None h = refl
whole_owed j b (Some r) h = ap {B = Option Owed} (λ i. Some (record { job = i; number = r.number })) (sym (held_waits j b r h).job)

-- A place past the eighth is empty.
pub below_eight : (rs : List (Option Receipt)) (j n : ℕ) → length rs ≡ 8 → Some n ≡ number_in (get_or rs j None) → j < 8
below_eight rs j n len p =
    ⊎_elim (λ e. ltb-true j 8 e)
    (λ e. absurd (none-some n (sym (p ∙ ap number_in (get_or_past rs j None (let k : 8 ≤ j = ltb-false j 8 e in omega (arith, len)))))))
    (cases_Bool (ltb j 8))

-- A job that is released does not wait, and one that does not wait is released as it is.
pub released_idle : (b : Job) → is_waiting (released b).status ≡ false
released_idle b =
    ⊎_elim (λ e. ap (λ z. is_waiting (cond z closed_job b).status) e) (λ e. ap (λ z. is_waiting (cond z closed_job b).status) e ∙ e)
    (cases_Bool (is_waiting b.status))

pub idle_released : (b : Job) → is_waiting b.status ≡ false → released b ≡ b
idle_released b e = ap (λ z. cond z closed_job b) e

-- The places once every job below the eighth is released.
module _ (f g : ℕ → Job) (rs qs : List (Option Receipt)) (was : (k : ℕ) → owed_to k (f k) (get_or rs k None) ≡ true) (now' : (k : ℕ) → owed_to k (g k) (get_or qs k None) ≡ true)
    (len : length rs ≡ 8) (len' : length qs ≡ 8) (each : (k : ℕ) → g k ≡ cond (ltb k 8) (released (f k)) (f k)) where
  pub all_gone : (k : ℕ) → get_or qs k None ≡ None
  all_gone k =
      ⊎_elim
      (λ e. idle_none k (g k) (get_or qs k None) (ap (λ (b : Job). is_waiting b.status) (each k ∙ ap (λ z. cond z (released (f k)) (f k)) e) ∙ released_idle (f k)) (now' k))
      (λ e. get_or_past qs k None (let h : 8 ≤ k = ltb-false k 8 e in omega (arith, len')))
      (cases_Bool (ltb k 8))

  pub all_released : (k : ℕ) → g k ≡ released (f k)
  all_released k =
      ⊎_elim
      (λ e. each k ∙ ap (λ z. cond z (released (f k)) (f k)) e)
      (λ e.
      let past : get_or rs k None ≡ None = get_or_past rs k None (let h : 8 ≤ k = ltb-false k 8 e in omega (arith, len)) in
      each k ∙ ap (λ z. cond z (released (f k)) (f k)) e
      ∙ sym (idle_released (f k) (none_idle k (f k) (subst (λ (x : Option Receipt). owed_to k (f k) x ≡ true) past (was k)))))
      (cases_Bool (ltb k 8))

-- A job that neither waited before nor waits after a call: what is held for it, nothing, is right then too.
pub idle_kept : (j : ℕ) (b c : Job) (x : Option Receipt) → is_waiting b.status ≡ false → is_waiting c.status ≡ false → owed_to j b x ≡ true → owed_to j c x ≡ true
idle_kept j b c None h k e = ap not k
idle_kept j b c (Some r) h k e = absurd (both_ways (is_waiting b.status) h (held_waits j b r e).waiting)

-- All places, once one job's record and receipt are others.
pub all_kept : (f g : ℕ → Job) (rs qs : List (Option Receipt)) (j : ℕ) (b : Job) (x : Option Receipt)
    → ((k : ℕ) → owed_to k (f k) (get_or rs k None) ≡ true)
    → j < length rs → g ≡ upd f j b → qs ≡ set rs j x → owed_to j b x ≡ true
    → (k : ℕ) → owed_to k (g k) (get_or qs k None) ≡ true
all_kept f g rs qs j b x h low eg eq here k = go (eqb k j) refl
  where
    at : (c : Job) (y : Option Receipt) → g k ≡ c → get_or qs k None ≡ y → owed_to k c y ≡ true → owed_to k (g k) (get_or qs k None) ≡ true
    at c y ec ey p = subst (λ (z : Job). owed_to k z (get_or qs k None) ≡ true) (sym ec) (subst (λ (z : Option Receipt). owed_to k c z ≡ true) (sym ey) p)

    go : (z : Bool) → eqb k j ≡ z → owed_to k (g k) (get_or qs k None) ≡ true
    go true e =
        let same : k ≡ j = eqb-true k j e in
        at b x (ap (λ (u : ℕ → Job). u k) eg ∙ ap (λ z. cond z b (f k)) e)
        (ap (λ (l : List (Option Receipt)). get_or l k None) eq ∙ ap (λ i. get_or (set rs j x) i None) same ∙ get_or-set_same rs j x None low)
        (subst (λ i. owed_to i b x ≡ true) (sym same) here)
    go false e =
        let other : k ≢ j = eqb-false k j e in
        at (f k) (get_or rs k None) (ap (λ (u : ℕ → Job). u k) eg ∙ ap (λ z. cond z b (f k)) e)
        (ap (λ (l : List (Option Receipt)). get_or l k None) eq ∙ get_or-set_other rs j k x None other)
        (h k)
