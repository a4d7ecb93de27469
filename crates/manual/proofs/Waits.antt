-- A job that waits: a run and a closing of it are refused, and what it is owed is accepted.
use Rattle.std.proofs.Common.{◌≡◌, ℕ, not, Some, Ok, Err, Option, sym, ap, ◌∙◌, subst}
use Rattle.refusal.specs.declared.Refusal.{Refusal}
use Rattle.refusal.specs.declared.Ground.TheVariants.{NotOpen, JobWaiting, JobEnded}
use Rattle.refusal.specs.Grounds.{refusal_of}
use Rattle.refusal.specs.Judging.{when, also}
use Rattle.runs.specs.declared.Ran.{Ran}
use Rattle.model.specs.declared.job.Job.{Job}
use Rattle.model.specs.declared.job.Status.{Status}
use Rattle.model.specs.declared.job.Status.TheVariants.{Waiting}
use Rattle.model.specs.Jobs.{is_open, is_waiting, is_ended}
use Rattle.model.specs.Calls.{Ask, asks, runs, Answer, ran}
use Rattle.model.specs.Acts.{too_many, judge_run, judge_close, judge_ask}
use Rattle.model.specs.Worlds.{World, Done, space_at, does}
use Rattle.model.proofs.Settling.{refuses}
use Rattle.engine.specs.declared.receipt.Receipt.{Receipt}
use Rattle.engine.specs.Answers.{owed_of}
use Rattle.engine.specs.Receipts.{Acceptable}
use Rattle.engine.proofs.Receipts.{RanSays, ran_says, ran_acceptable, owed_waits, status_waiting}

-- A refused call changes no job.
pub same_jobs : (x : Ask) (w v : World) (e : Refusal) (a : Answer) → judge_ask 0 x (w.jobs 0) (space_at w 0) ≡ Err e
    → does (asks 0 x) w ≡ record { world = v; answer = a } → v.jobs ≡ w.jobs
same_jobs x w v e a q p = ap (λ (d : Done). d.world.jobs) (sym p ∙ refuses 0 x w e q)

pub waiting_judged : (n : ℕ) (b : Job) → b.status ≡ Waiting → judge_run 0 n b ≡ Err (refusal_of JobWaiting 0)
waiting_judged n b e =
    ap (λ (s : Status). also (when (not (is_open s)) NotOpen) (also (when (is_waiting s) JobWaiting) (also (when (is_ended s) JobEnded) (also (too_many b n) (Ok tt))))) e

pub closing_judged : (b : Job) → b.status ≡ Waiting → judge_close 0 b ≡ Err (refusal_of JobWaiting 0)
closing_judged b e = ap (λ (s : Status). also (when (not (is_open s)) NotOpen) (also (when (is_waiting s) JobWaiting) (Ok tt))) e

-- A run whose receipt is given: its job waits, and what is owed is accepted.
pub record Owing (jobs : ℕ → Job) (r : Receipt) : Type 0 where
  pub waiting : (jobs 0).status ≡ Waiting
  pub acceptable : Acceptable (owed_of (Some r)) jobs

pub owing : (n : ℕ) (w v : World) (run : Ran) (x : Option Receipt) (r : Receipt) → does (asks 0 (runs n)) w ≡ record { world = v; answer = ran run (owed_of x) } → x ≡ Some r
    → Owing v.jobs r
owing n w v run x r p e =
    let says : RanSays 0 w v run (owed_of (Some r)) = subst (λ (y : Option Receipt). RanSays 0 w v run (owed_of y)) e (ran_says 0 n w v run (owed_of x) p) in
    record {
      waiting = status_waiting (v.jobs 0).status (owed_waits run.stop 0 (v.jobs 0) (record { job = r.job; number = r.number }) says.status says.owed).waiting;
      acceptable = ran_acceptable 0 w v run (owed_of (Some r)) says;
    }
