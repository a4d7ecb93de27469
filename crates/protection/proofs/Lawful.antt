-- What every act owes: while its job goes on it keeps the table and leaves the job open, and when it ends it the record is the closed one.
use Rattle.std.proofs.Common.{◌≡◌, ℕ, Bool, true, false, not, ◌&&◌, Ok, Err, sym, refl, ◌∙◌}
use Rattle.refusal.specs.declared.Ground.TheVariants.{NotOpen}
use Rattle.refusal.specs.declared.Refusal.{Refusal}
use Rattle.refusal.specs.Judging.{Judgement, when, also}
use Rattle.space.specs.Cells.{Cells}
use Rattle.runs.specs.Runs.{run_of}
use Rattle.std.proofs.lemmas.Bool.{both_ways}
use Rattle.model.specs.declared.job.Job.{Job}
use Rattle.model.specs.Jobs.{closed_job, is_open}
use Rattle.model.specs.Calls.{Ask, loads, runs, replies, abandons, looks, states, closes, Answer, refused, accepted, closing, asks, ends}
use Rattle.model.specs.Acts.{Left, says, no_such_job, not_open, judge_ask, effect_of, unless, act_of}
use Rattle.refusal.proofs.Judgements.{err_ok, passed}
use Rattle.model.proofs.Answers.{stop_open}

-- `over` tells by the answer whether the act ended its job.
pub record Law (over : Answer → Bool) (b : Job) (x : Left) : Type 0 where
  pub goes : over x.answer ≡ false → (x.job.table ≡ b.table) × (is_open x.job.status ≡ is_open b.status)
  pub gone : over x.answer ≡ true → x.job ≡ closed_job

stays : (over : Answer → Bool) (b : Job) (x : Left) → over x.answer ≡ false → x.job.table ≡ b.table → is_open x.job.status ≡ is_open b.status → Law over b x
stays over b x e t o = record { goes = λ q. (t, o); gone = λ q. absurd (both_ways (over x.answer) e q) }

closed : (over : Answer → Bool) (b : Job) (x : Left) → over x.answer ≡ true → x.job ≡ closed_job → Law over b x
closed over b x e c = record { goes = λ q. absurd (both_ways (over x.answer) q e); gone = λ q. c }

-- An accepted call finds its job open.
found_open : (z : Bool) → when (not z) NotOpen ≡ Ok tt → z ≡ true
found_open true p = refl
found_open false p = err_ok _ p

opened : (j : ℕ) (b : Job) (more : Judgement) → also (no_such_job j) (also (not_open b) more) ≡ Ok tt → is_open b.status ≡ true
opened j b more p = found_open (is_open b.status) (passed (not_open b) more (passed (no_such_job j) (also (not_open b) more) p).1).0

-- The effect of each call, once it is accepted.
effect_law : (j : ℕ) (x : Ask) (b : Job) (s : Cells) → judge_ask j x b s ≡ Ok tt → Law (ends (asks j x)) b (effect_of j x b s)
effect_law j (loads a bs) b s p = stays (ends (asks j (loads a bs))) b (effect_of j (loads a bs) b s) refl refl refl
effect_law j (runs n) b s p =
    stays (ends (asks j (runs n))) b (effect_of j (runs n) b s) refl refl (stop_open (run_of n 0 0 b.processor s).answer.stop ∙ sym (opened j b _ p))
effect_law j (replies n r) b s p = stays (ends (asks j (replies n r))) b (effect_of j (replies n r) b s) refl refl (sym (opened j b _ p))
effect_law j (abandons n) b s p = closed (ends (asks j (abandons n))) b (effect_of j (abandons n) b s) refl refl
effect_law j (looks a n) b s p = stays (ends (asks j (looks a n))) b (effect_of j (looks a n) b s) refl refl refl
effect_law j states b s p = stays (ends (asks j states)) b (effect_of j states b s) refl refl refl
effect_law j closes b s p = closed (ends (asks j closes)) b (effect_of j closes b s) refl refl

no_end : (x : Ask) (e : Refusal) → (closing x && accepted (refused e)) ≡ false
no_end x e = go (closing x)
  where
    go : (z : Bool) → (z && false) ≡ false
    go true = refl
    go false = refl

pub act_law : (j : ℕ) (x : Ask) (b : Job) (s : Cells) → Law (ends (asks j x)) b (act_of j x b s)
act_law j x b s = go (judge_ask j x b s) refl
  where
    go : (z : Judgement) → judge_ask j x b s ≡ z → Law (ends (asks j x)) b (unless z (effect_of j x) b s)
    go (Ok u) p = effect_law j x b s p
    go (Err e) p = stays (ends (asks j x)) b (says (refused e) b s) (no_end x e) refl refl
