-- What a receipt is worth: a run that stops at a system call owes it, the engine accepts it while its job waits, and a reply or an abandoning ends it.
use Rattle.std.proofs.Common.{◌≡◌, ℕ, ◌<◌, ◌≤◌, true, false, not, ◌&&◌, eqb, Some, None, Ok, Err, Option, Result, IsOk, sym, refl, ap, ◌∙◌, subst, arith, eq-eqb}
use Rattle.std.specs.Result.{IsErrAnd}
use Rattle.std.proofs.lemmas.Bool.{le-ltb, and_from}
use Rattle.std.proofs.lemmas.Option.{none-some}
use Rattle.refusal.specs.declared.Refusal.{Refusal}
use Rattle.refusal.specs.declared.Ground.TheVariants.{NoSuchJob, NotOpen, JobWaiting, NotOwed}
use Rattle.refusal.specs.Judging.{Judgement, when, also}
use Rattle.refusal.proofs.Judgements.{passed, when_no}
use Rattle.stop.specs.declared.Trap.{Trap}
use Rattle.stop.specs.declared.Trap.TheVariants.{Halt, SystemCall, Breakpoint}
use Rattle.stop.specs.declared.Stop.{Stop}
use Rattle.stop.specs.declared.Stop.TheVariants.{Limit, Trapped, Faulted}
use Rattle.runs.specs.declared.Ran.{Ran}
use Rattle.runs.specs.Runs.{Over, run_of}
use Rattle.model.specs.declared.job.Job.{Job}
use Rattle.model.specs.declared.job.Status.{Status}
use Rattle.model.specs.declared.job.Status.TheVariants.{Closed, Ready, Waiting, Ended}
use Rattle.model.specs.Jobs.{is_open, is_waiting, status_after, ran_job}
use Rattle.model.specs.Calls.{Ask, asks, runs, abandons, Owed, done, ran}
use Rattle.model.specs.Acts.{says, no_such_job, not_open, waits, not_owed, owed_by, ran_left, judge_ask, judge_run, judge_receipt, effect_of}
use Rattle.model.specs.Worlds.{World, Done, space_at, upd, settle, does}
use Rattle.model.proofs.Answers.{refused_done, refused_ran}
use Rattle.model.proofs.Settling.{upd_same, refuses, accepts, settles_record}
use Rattle.engine.specs.declared.receipt.Returned.{Returned}
use Rattle.engine.specs.Answers.{returned_answer}
use Rattle.engine.specs.Judges.{or_refused}
use Rattle.engine.specs.Receipts.{Acceptable}
use Rattle.engine.proofs.Judged.{given, withheld, seated, hands_on}

-- A job that waits has one status, and is open.
pub status_waiting : (s : Status) → is_waiting s ≡ true → s ≡ Waiting
status_waiting Closed h = cc
status_waiting Ready h = cc
status_waiting Waiting h = refl
status_waiting Ended h = cc

waiting_open : (s : Status) → is_waiting s ≡ true → is_open s ≡ true
waiting_open s h = ap is_open (status_waiting s h)

-- The engine accepts the number that a job waits for.
pub accepted : (j n : ℕ) (b : Job) → j < 8 → is_waiting b.status ≡ true → n ≡ b.calls → judge_receipt j n b ≡ Ok tt
accepted j n b low h e =
    ap (λ z. also (when z NoSuchJob) (also (not_open b) (also (not_owed b n) (Ok tt)))) (le-ltb 7 j (let k : j ≤ 7 = omega arith in k))
    ∙ ap (λ z. also (when (not z) NotOpen) (also (not_owed b n) (Ok tt))) (waiting_open b.status h)
    ∙ ap (λ z. also (when (not z) NotOwed) (Ok tt)) (and_from (is_waiting b.status) (eqb b.calls n) h (eq-eqb b.calls n (sym e)))

-- And refuses any other.
later : (x y : Judgement) (e : Refusal) → (d : Refusal) × (also x (also y (also (Err e) (Ok tt))) ≡ Err d)
later (Err d) y e = (d, refl)
later (Ok u) (Err d) e = (d, refl)
later (Ok u) (Ok v) e = (e, refl)

pub unowed : (j n : ℕ) (b : Job) → (is_waiting b.status && eqb b.calls n) ≡ false → (d : Refusal) × (judge_receipt j n b ≡ Err d)
unowed j n b h =
    let f = later (no_such_job j) (not_open b) (record { ground = NotOwed; place = 0 }) in
    (f.0, ap (λ z. also (no_such_job j) (also (not_open b) (also (when (not z) NotOwed) (Ok tt)))) h ∙ f.1)

-- The job `j` with this record waits for the receipt that names the job `i` and the number `n`.
pub record Waits (j : ℕ) (b : Job) (i n : ℕ) : Type 0 where
  pub waiting : is_waiting b.status ≡ true
  pub job : i ≡ j
  pub number : n ≡ b.calls

pub waits_accepted : (jobs : ℕ → Job) (j i n : ℕ) → j < 8 → Waits j (jobs j) i n → judge_receipt i n (jobs i) ≡ Ok tt
waits_accepted jobs j i n low h =
    subst (λ k. judge_receipt k n (jobs k) ≡ Ok tt) (sym h.job) (accepted j n (jobs j) low h.waiting h.number)

-- A stop that owes something leaves its job waiting for it, and one that owes nothing does not leave it waiting.
trap_waits : (e : Trap) (j : ℕ) (b : Job) (o : Owed) → b.status ≡ status_after (Trapped e) → Some o ≡ owed_by (Trapped e) j b.calls → Waits j b o.job o.number
trap_waits Halt j b o s p = absurd (none-some o (sym p))
trap_waits SystemCall j b o s p =
    let same : o ≡ record { job = j; number = b.calls } = cc in
    record { waiting = ap is_waiting s; job = ap (λ (x : Owed). x.job) same; number = ap (λ (x : Owed). x.number) same }
trap_waits Breakpoint j b o s p = absurd (none-some o (sym p))

pub owed_waits : (e : Stop) (j : ℕ) (b : Job) (o : Owed) → b.status ≡ status_after e → Some o ≡ owed_by e j b.calls → Waits j b o.job o.number
owed_waits Limit j b o s p = absurd (none-some o (sym p))
owed_waits (Trapped e) j b o s p = trap_waits e j b o s p
owed_waits (Faulted e) j b o s p = absurd (none-some o (sym p))

trap_idle : (e : Trap) (j n : ℕ) → None ≡ owed_by (Trapped e) j n → is_waiting (status_after (Trapped e)) ≡ false
trap_idle Halt j n p = refl
trap_idle SystemCall j n p = absurd (none-some (record { job = j; number = n }) p)
trap_idle Breakpoint j n p = refl

pub nothing_owed : (e : Stop) (j n : ℕ) → None ≡ owed_by e j n → is_waiting (status_after e) ≡ false
nothing_owed Limit j n p = refl
nothing_owed (Trapped e) j n p = trap_idle e j n p
nothing_owed (Faulted e) j n p = refl

-- A run that is accepted: its job did not wait, has the status that the stop makes, and is owed what the run tells. No other record changes.
pub record RanSays (j : ℕ) (w v : World) (r : Ran) (o : Option Owed) : Type 0 where
  pub low : j < 8
  pub idle : is_waiting (w.jobs j).status ≡ false
  pub jobs : v.jobs ≡ upd w.jobs j (v.jobs j)
  pub status : (v.jobs j).status ≡ status_after r.stop
  pub owed : o ≡ owed_by r.stop j (v.jobs j).calls

pub ran_says : (j n : ℕ) (w v : World) (r : Ran) (o : Option Owed) → does (asks j (runs n)) w ≡ record { world = v; answer = ran r o } → RanSays j w v r o
ran_says j n w v r o p = go (judge_run j n (w.jobs j)) refl
  where
    go : (z : Judgement) → judge_run j n (w.jobs j) ≡ z → RanSays j w v r o
    go (Err e) q = refused_ran e r o (ap (λ (d : Done). d.answer) (sym (refuses j (runs n) w e q) ∙ p))
    go (Ok u) q =
        let b : Job = w.jobs j in
        let y : Over = run_of n 0 0 b.processor (space_at w j) in
        let x : Job = ran_job b y.answer y.cpu in
        let same : settle j w (ran_left j b y) ≡ record { world = v; answer = ran r o } = sym (accepts j (runs n) w q) ∙ p in
        let jobs : upd w.jobs j x ≡ v.jobs = ap (λ (d : Done). d.world.jobs) same in
        let job : v.jobs j ≡ x = sym (ap (λ (f : ℕ → Job). f j) jobs) ∙ upd_same w.jobs j x in
        let said : ran y.answer (owed_by y.answer.stop j x.calls) ≡ ran r o = ap (λ (d : Done). d.answer) same in
        let run : y.answer ≡ r = cc in
        let owes : o ≡ owed_by y.answer.stop j x.calls = cc in
        record {
          low = seated j _ q;
          idle = when_no (is_waiting b.status) JobWaiting (passed (waits b) _ (passed (not_open b) _ (passed (no_such_job j) _ q).1).1).0;
          jobs = sym jobs ∙ ap (upd w.jobs j) (sym job);
          status = ap (λ (k : Job). k.status) job ∙ ap (λ (k : Ran). status_after k.stop) run;
          owed = owes ∙ ap (λ (k : Ran). owed_by k.stop j x.calls) run ∙ ap (λ (k : Job). owed_by r.stop j k.calls) (sym job);
        }

-- What it owes is accepted by its engine.
pub ran_acceptable : (j : ℕ) (w v : World) (r : Ran) (o : Option Owed) → RanSays j w v r o → Acceptable o v.jobs
ran_acceptable j w v r None h = tt
ran_acceptable j w v r (Some o) h = waits_accepted v.jobs j o.job o.number h.low (owed_waits r.stop j (v.jobs j) o h.status h.owed)

-- A call with a receipt that is accepted is done.
pub receipt_ends : (j : ℕ) (x : Ask) (w v : World) (r : Result (Unit {0}) Returned) → judge_ask j x (w.jobs j) (space_at w j) ≡ Ok tt
    → (effect_of j x (w.jobs j) (space_at w j)).answer ≡ done → does (asks j x) w ≡ record { world = v; answer = returned_answer r } → IsOk r
receipt_ends j x w v (Ok u) h d p = refl
receipt_ends j x w v (Err e) h d p = refused_done e.refusal (ap (λ (y : Done). y.answer) (sym p ∙ accepts j x w h) ∙ d)

-- An acceptable abandoning is done.
pub abandoned : (w : World) (o : Owed) → Acceptable (Some o) w.jobs → (does (asks o.job (abandons o.number)) w).answer ≡ done
abandoned w o h = ap (λ (d : Done). d.answer) (accepts o.job (abandons o.number) w h)

pub abandon_ends : (o : Owed) (w v : World) (r : Result (Unit {0}) Returned) → Acceptable (Some o) w.jobs
    → does (asks o.job (abandons o.number)) w ≡ record { world = v; answer = returned_answer r } → IsOk r
abandon_ends o w v r h p = receipt_ends o.job (abandons o.number) w v r h refl p

-- The two ways in which a call with a receipt answers: refused, with the receipt handed back, and done, with another record for its job.
module _ (j : ℕ) (x : Ask) (w : World) where
  pub handed_back : (y : Returned) (r : Result (Unit {0}) Returned) → Err y.refusal ≡ or_refused (judge_ask j x (w.jobs j) (space_at w j)) (w.jobs j)
      → IsErrAnd r (λ z. z ≡ y) → does (asks j x) w ≡ record { world = w; answer = returned_answer r }
  handed_back y r h p = hands_on returned_answer w _ r y (refuses j x w y.refusal (withheld _ (w.jobs j) _ h)) p

  pub carried_out : (k : ℕ) (b c d : Job) (f : ℕ → Job) → Ok b ≡ or_refused (judge_ask j x (w.jobs j) (space_at w j)) (w.jobs j)
      → effect_of j x (w.jobs j) (space_at w j) ≡ says done c (space_at w j) → k ≡ j → (b ≡ w.jobs j → d ≡ c) → f ≡ upd w.jobs k d
      → does (asks j x) w ≡ record { world = record { jobs = f; mem = w.mem }; answer = done }
  carried_out k b c d f h e ek ed ef =
      let took = given _ (w.jobs j) b h in
      accepts j x w took.0 ∙ ap (settle j w) e
      ∙ settles_record j w c f done (ef ∙ ap (upd w.jobs k) (ed took.1) ∙ ap (λ i. upd w.jobs i c) ek)
