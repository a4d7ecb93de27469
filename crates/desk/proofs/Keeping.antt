-- What each call of the engine does to what is owed.
use Rattle.std.proofs.Common.{◌≡◌, ℕ, ◌<◌, Bool, true, false, cond, not, eqb, List, get_or, set, replicate, Some, None, Ok, Err, Option, Result, IsOk, sym, refl, ap, ◌∙◌, subst, ap₂, arith, eq-eqb, eqb-true}
use Rattle.refusal.specs.declared.Ground.TheVariants.{JobWaiting, AlreadyOpen}
use Rattle.refusal.specs.declared.Refusal.{Refusal}
use Rattle.refusal.specs.Judging.{Judgement, when}
use Rattle.stop.specs.declared.Stop.{Stop}
use Rattle.memory.specs.Memories.{Mem}
use Rattle.runs.specs.declared.Ran.{Ran}
use Rattle.pages.specs.Held.{Table}
use Rattle.std.proofs.lemmas.Bool.{and_from}
use Rattle.model.specs.declared.job.Job.{Job}
use Rattle.model.specs.declared.job.Status.{Status}
use Rattle.model.specs.declared.job.Status.TheVariants.{Closed, Ready, Waiting, Ended}
use Rattle.model.specs.Jobs.{closed_job, opened_job, is_open, is_waiting, status_after}
use Rattle.model.specs.Calls.{opens, asks, Ask, runs, abandons, closes, Answer, refused, done}
use Rattle.model.specs.Acts.{no_such_job, not_open, waits, owed_by, judge_ask, judge_run, judge_close, judge_receipt, effect_of}
use Rattle.model.specs.Worlds.{World, Done, jobs_of, world_of, space_at, upd, judge_open, unless_open, does}
use Rattle.model.proofs.Settling.{refuses, accepts}
use Rattle.engine.specs.declared.receipt.Receipt.{Receipt}
use Rattle.engine.specs.declared.receipt.Returned.{Returned}
use Rattle.engine.specs.Answers.{owed_of, returned_answer}
use Rattle.refusal.proofs.Judgements.{passed, when_no}
use Rattle.engine.proofs.Receipts.{Waits, RanSays, owed_waits, nothing_owed, receipt_ends}
use Rattle.desk.specs.declared.desk.Desk.{Desk}
use Rattle.desk.specs.Owing.{owed_to, released}
use Rattle.desk.specs.Held.{fitting}
use Rattle.desk.proofs.Owing.{Taken, Owes, taken, refused_receipt, idle_kept, all_kept}
use Rattle.model.proofs.Answers.{no_mem, refused_ran}
use Rattle.model.proofs.Seats.{seats, replicated}

shut_idle : (s : Status) → is_open s ≡ false → is_waiting s ≡ false
shut_idle Closed h = refl
shut_idle Ready h = refl
shut_idle Waiting h = h
shut_idle Ended h = refl

-- A record put in the place of one that does not wait, and that does not wait either, leaves what is owed.
put_keeps : (f : ℕ → Job) (j : ℕ) (b : Job) → is_waiting (f j).status ≡ false → is_waiting b.status ≡ false
    → (k : ℕ) (x : Option Receipt) → owed_to k (f k) x ≡ true → owed_to k (upd f j b k) x ≡ true
put_keeps f j b was is k x h = go (eqb k j) refl
  where
    go : (z : Bool) → eqb k j ≡ z → owed_to k (upd f j b k) x ≡ true
    go true e =
        subst (λ (u : Job). owed_to k u x ≡ true) (sym (ap (λ z. cond z b (f k)) e))
        (idle_kept k (f k) b x (ap (λ i. is_waiting (f i).status) (eqb-true k j e) ∙ was) is h)
    go false e = subst (λ (u : Job). owed_to k u x ≡ true) (sym (ap (λ z. cond z b (f k)) e)) h

module _ (w v : World) (a : Answer) where
  -- Where the jobs after a call are, by the world that its meaning gives.
  at_jobs : (d : Done) → d ≡ record { world = v; answer = a } → (f : ℕ → Job) → d.world.jobs ≡ f
      → ((k : ℕ) (x : Option Receipt) → owed_to k (w.jobs k) x ≡ true → owed_to k (f k) x ≡ true)
      → (k : ℕ) (x : Option Receipt) → owed_to k (w.jobs k) x ≡ true → owed_to k (v.jobs k) x ≡ true
  at_jobs d e f ef h k x p =
      subst (λ (u : ℕ → Job). owed_to k (u k) x ≡ true) (sym ef ∙ ap (λ (y : Done). y.world.jobs) e) (h k x p)

  -- An opening leaves what is owed: a job that is opened was closed.
  pub open_keeps : (j : ℕ) (t : Table) (start : ℕ) → does (opens j t start) w ≡ record { world = v; answer = a }
      → (k : ℕ) (x : Option Receipt) → owed_to k (w.jobs k) x ≡ true → owed_to k (v.jobs k) x ≡ true
  open_keeps j t start p = go (judge_open j t w) refl
    where
      go : (z : Judgement) → judge_open j t w ≡ z → (k : ℕ) (x : Option Receipt) → owed_to k (w.jobs k) x ≡ true → owed_to k (v.jobs k) x ≡ true
      go (Err e) q = at_jobs (does (opens j t start) w) p w.jobs (ap (λ (y : Judgement). (unless_open y j t start w).world.jobs) q) (λ k x h. h)
      go (Ok u) q =
          at_jobs (does (opens j t start) w) p (upd w.jobs j (opened_job t start)) (ap (λ (y : Judgement). (unless_open y j t start w).world.jobs) q)
          (put_keeps w.jobs j (opened_job t start)
          (shut_idle (w.jobs j).status (when_no (is_open (w.jobs j).status) AlreadyOpen (passed (when (is_open (w.jobs j).status) AlreadyOpen) _ (passed (no_such_job j) _ q).1).0))
          refl)

  -- So does a closing: a job that is closed did not wait.
  pub close_keeps : (j : ℕ) → does (asks j closes) w ≡ record { world = v; answer = a }
      → (k : ℕ) (x : Option Receipt) → owed_to k (w.jobs k) x ≡ true → owed_to k (v.jobs k) x ≡ true
  close_keeps j p = go (judge_close j (w.jobs j)) refl
    where
      go : (z : Judgement) → judge_close j (w.jobs j) ≡ z → (k : ℕ) (x : Option Receipt) → owed_to k (w.jobs k) x ≡ true → owed_to k (v.jobs k) x ≡ true
      go (Err e) q = at_jobs (does (asks j closes) w) p w.jobs (ap (λ (d : Done). d.world.jobs) (refuses j closes w e q)) (λ k x h. h)
      go (Ok u) q =
          at_jobs (does (asks j closes) w) p (upd w.jobs j closed_job) (ap (λ (d : Done). d.world.jobs) (accepts j closes w q))
          (put_keeps w.jobs j closed_job
          (when_no (is_waiting (w.jobs j).status) JobWaiting (passed (waits (w.jobs j)) _ (passed (not_open (w.jobs j)) _ (passed (no_such_job j) _ q).1).1).0)
          refl)

-- A new engine owes nothing.
pub new_keeps : (f : ℕ → Job) (rs : List (Option Receipt)) → f ≡ jobs_of (replicate 8 closed_job) → rs ≡ replicate 8 None
    → (k : ℕ) → owed_to k (f k) (get_or rs k None) ≡ true
new_keeps f rs ef er k =
    subst (λ (x : Option Receipt). owed_to k (f k) x ≡ true) (sym (ap (λ (l : List (Option Receipt)). get_or l k None) er ∙ replicated None 8 k))
    (ap not (ap (λ (g : ℕ → Job). is_waiting (g k).status) ef ∙ seats (λ b. is_waiting b.status ≡ false) refl refl 8 k))

-- A stop makes the job wait exactly where something is owed.
by_stop : (j : ℕ) (b : Job) (e : Stop) (x : Option Receipt) → b.status ≡ status_after e → owed_of x ≡ owed_by e j b.calls → owed_to j b x ≡ true
by_stop j b e None s p = ap not (ap is_waiting s ∙ nothing_owed e j b.calls p)
by_stop j b e (Some r) s p =
    let h : Waits j b r.job r.number = owed_waits e j b (record { job = r.job; number = r.number }) s p in
    and_from (is_waiting b.status) _ h.waiting (and_from (eqb r.job j) _ (eq-eqb r.job j h.job) (eq-eqb r.number b.calls h.number))

-- A run that is accepted: its job is owed the receipt that it gives.
pub run_owes : (j : ℕ) (w v : World) (r : Ran) (x : Option Receipt) → RanSays j w v r (owed_of x) → owed_to j (v.jobs j) x ≡ true
run_owes j w v r x h = by_stop j (v.jobs j) r.stop x h.status h.owed

-- One that is refused changes no record.
pub run_refused : (j n : ℕ) (w v : World) (e : Refusal) → does (asks j (runs n)) w ≡ record { world = v; answer = refused e } → w.jobs ≡ v.jobs
run_refused j n w v e p = go (judge_run j n (w.jobs j)) refl
  where
    go : (z : Judgement) → judge_run j n (w.jobs j) ≡ z → w.jobs ≡ v.jobs
    go (Err d) q = ap (λ (x : Done). x.world.jobs) (sym (refuses j (runs n) w d q) ∙ p)
    go (Ok u) q = refused_ran e _ _ (ap (λ (d : Done). d.answer) (sym p ∙ accepts j (runs n) w q))

-- A call of a desk with the number of a receipt: a reply or an abandoning.
module _ (ask : ℕ → Ask) (desk : Desk) (j n : ℕ)
    (judges : (w : World) → judge_ask j (ask n) (w.jobs j) (space_at w j) ≡ judge_receipt j n (w.jobs j)) where
  abbrev place : Option Receipt
  place = get_or desk.held.receipts j None

  -- Without the receipt it is refused, and changes nothing.
  pub missing : None ≡ fitting n place → (m : Mem) → world_of desk.engine.jobs m ≡ (does (asks j (ask n)) (world_of desk.engine.jobs m)).world
  missing p m =
      let w : World = world_of desk.engine.jobs m in
      let q = refused_receipt j n (w.jobs j) place (desk.kept j) p in
      sym (ap (λ (d : Done). d.world) (refuses j (ask n) w q.0 (judges w ∙ q.1)))

  -- With it, which is taken out, it is accepted, and the places stay right.
  module _ (v : List Job) (r : Receipt) (res : Result (Unit {0}) Returned) (fits : Some r ≡ fitting n place)
      (p : (m : Mem) → does (asks r.job (ask r.number)) (world_of desk.engine.jobs m) ≡ record { world = world_of v m; answer = returned_answer res }) where
    abbrev w : World
    w = world_of desk.engine.jobs no_mem

    out : Taken w.jobs desk.held.receipts j n r
    out = taken w.jobs desk.held.receipts j n r desk.kept desk.held.eight fits

    here : does (asks j (ask n)) w ≡ record { world = world_of v no_mem; answer = returned_answer res }
    here = ap₂ (λ i k. does (asks i (ask k)) w) (sym out.job) (sym out.number) ∙ p no_mem

    pub receipt_kept : (qs : List (Option Receipt)) → is_waiting (effect_of j (ask n) (w.jobs j) (space_at w j)).job.status ≡ false
        → qs ≡ set desk.held.receipts j None → (k : ℕ) → owed_to k (jobs_of v k) (get_or qs k None) ≡ true
    receipt_kept qs idle e =
        all_kept w.jobs (jobs_of v) desk.held.receipts qs j (effect_of j (ask n) (w.jobs j) (space_at w j)).job None desk.kept
        (let low : j < 8 = out.low in omega (arith, desk.held.eight)) (ap (λ (y : Done). y.world.jobs) (sym here ∙ accepts j (ask n) w (judges w ∙ out.judged))) e (ap not idle)

    pub receipt_accepted : (effect_of j (ask n) (w.jobs j) (space_at w j)).answer ≡ done → IsOk res
    receipt_accepted d = receipt_ends j (ask n) w (world_of v no_mem) res (judges w ∙ out.judged) d here

-- Abandoning what a job is owed releases it.
pub release_says : (w v : World) (j n : ℕ) → Owes (w.jobs j) j n → v ≡ (does (asks j (abandons n)) w).world
    → (k : ℕ) → v.jobs k ≡ cond (eqb k j) (released (w.jobs k)) (w.jobs k)
release_says w v j n o p k =
    ap (λ (x : World). x.jobs k) p ∙ ap (λ (d : Done). d.world.jobs k) (accepts j (abandons n) w o.judged) ∙ go (eqb k j) refl
  where
    go : (z : Bool) → eqb k j ≡ z → cond (eqb k j) closed_job (w.jobs k) ≡ cond (eqb k j) (released (w.jobs k)) (w.jobs k)
    go true e =
        ap (λ z. cond z closed_job (w.jobs k)) e
        ∙ sym (ap (λ z. cond z closed_job (w.jobs k)) (ap (λ i. is_waiting (w.jobs i).status) (eqb-true k j e) ∙ o.waiting))
        ∙ sym (ap (λ z. cond z (released (w.jobs k)) (w.jobs k)) e)
    go false e = ap (λ z. cond z closed_job (w.jobs k)) e ∙ sym (ap (λ z. cond z (released (w.jobs k)) (w.jobs k)) e)
