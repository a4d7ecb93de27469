-- What a run's answer says of the job: it is open, and tells its state. And what an abandoning leaves.
use Rattle.std.proofs.Common.{◌≡◌, ℕ, true, not, Some, None, Ok, Err, Option, Result, refl, ap, sym, ◌∙◌}
use Rattle.refusal.specs.declared.Refusal.{Refusal}
use Rattle.refusal.specs.declared.Ground.TheVariants.{NotOpen}
use Rattle.refusal.specs.Judging.{Judgement, when, also}
use Rattle.runs.specs.declared.Ran.{Ran}
use Rattle.model.specs.declared.job.Job.{Job}
use Rattle.model.specs.declared.job.State.{State}
use Rattle.model.specs.Jobs.{closed_job, is_open, state_of}
use Rattle.model.specs.Calls.{asks, states, abandons, Owed, done, told}
use Rattle.model.specs.Acts.{judge_ask, judge_open_job}
use Rattle.model.specs.Worlds.{World, Done, space_at, upd, does}
use Rattle.model.proofs.Answers.{refused_told, stop_open}
use Rattle.model.proofs.Settling.{refuses, accepts, settles_record, settles_answer}
use Rattle.engine.specs.Answers.{told_answer}
use Rattle.engine.proofs.Receipts.{RanSays}
use Rattle.launch.specs.Launches.{settled_by}

-- A run leaves its job open.
pub ran_open : (j : ℕ) (w v : World) (r : Ran) (o : Option Owed) → RanSays j w v r o → is_open (v.jobs j).status ≡ true
ran_open j w v r o h = ap is_open h.status ∙ stop_open r.stop

-- An open job 0 tells its state.
pub open_judged : (b : Job) → is_open b.status ≡ true → judge_open_job 0 b ≡ Ok tt
open_judged b e = ap (λ z. also (when (not z) NotOpen) (Ok tt)) e

pub state_told : (w : World) → is_open (w.jobs 0).status ≡ true → does (asks 0 states) w ≡ record { world = w; answer = told (state_of (w.jobs 0)) }
state_told w e = accepts 0 states w (open_judged (w.jobs 0) e) ∙ settles_answer 0 w (told (state_of (w.jobs 0)))

pub state_is : (w v : World) (r : Result State Refusal) → is_open (w.jobs 0).status ≡ true
    → does (asks 0 states) w ≡ record { world = v; answer = told_answer r } → r ≡ Ok (state_of (w.jobs 0))
state_is w v (Ok s) h p =
    let said : told s ≡ told (state_of (w.jobs 0)) = ap (λ (d : Done). d.answer) (sym p ∙ state_told w h) in
    let same : s ≡ state_of (w.jobs 0) = cc in
    ap (λ (x : State). Ok x) same
state_is w v (Err e) h p = refused_told e (state_of (w.jobs 0)) (ap (λ (d : Done). d.answer) (sym p ∙ state_told w h))

-- Abandoning leaves memory as it was.
pub settled_mem : (o : Option Owed) (w : World) → (settled_by o w).mem ≡ w.mem
settled_mem None w = refl
settled_mem (Some o) w = go (judge_ask o.job (abandons o.number) (w.jobs o.job) (space_at w o.job)) refl
  where
    go : (z : Judgement) → judge_ask o.job (abandons o.number) (w.jobs o.job) (space_at w o.job) ≡ z → (does (asks o.job (abandons o.number)) w).world.mem ≡ w.mem
    go (Err e) q = ap (λ (d : Done). d.world.mem) (refuses o.job (abandons o.number) w e q)
    go (Ok u) q = ap (λ (d : Done). d.world.mem) (accepts o.job (abandons o.number) w q ∙ settles_record o.job w closed_job (upd w.jobs o.job closed_job) done refl)
