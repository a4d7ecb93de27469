-- What an accepted or refused judgement says.
use Rattle.std.proofs.Common.{◌≡◌, ℕ, ◌<◌, ◌≤◌, ltb, Ok, Err, Result, sym, refl, ap, arith, ◌∙◌}
use Rattle.std.proofs.lemmas.Bool.{ltb-false}
use Rattle.refusal.specs.declared.Refusal.{Refusal}
use Rattle.refusal.specs.Judging.{Judgement, also}
use Rattle.model.specs.declared.job.Job.{Job}
use Rattle.model.specs.Acts.{no_such_job}
use Rattle.engine.specs.Judges.{or_refused}
use Rattle.refusal.proofs.Judgements.{err_ok, passed, when_no}
use Rattle.std.specs.Result.{IsErrAnd}
use Rattle.std.proofs.lemmas.Result.{err_from_is_err_and}
use Rattle.model.specs.Calls.{Answer}
use Rattle.model.specs.Worlds.{World, Done}

ok_err : {A : Type 0} (b : Job) (e : Refusal) → ◌≡◌ {A = Result Job Refusal} (Ok b) (Err e) → A
ok_err b e p = absurd (let z : ◌≡◌ {A = ℕ} 0 1 = cc in omega arith)

-- A record that was given is the job's, and nothing refuses it.
pub given : (z : Judgement) (b x : Job) → Ok x ≡ or_refused z b → (z ≡ Ok tt) × (x ≡ b)
given (Ok u) b x p = (refl, (let same : x ≡ b = cc in same))
given (Err e) b x p = ok_err x e p

pub withheld : (z : Judgement) (b : Job) (e : Refusal) → Err e ≡ or_refused z b → z ≡ Err e
withheld (Ok u) b e p = ok_err b e (sym p)
withheld (Err d) b e p = let same : d ≡ e = cc in ap (λ (x : Refusal). Err x) same

-- The job's number is one of the eight.
pub seated : (j : ℕ) (more : Judgement) → also (no_such_job j) more ≡ Ok tt → j < 8
seated j more p = let h : j ≤ 7 = ltb-false 7 j (when_no (ltb 7 j) _ (passed (no_such_job j) more p).0) in omega arith

-- The two grounds that every call has, before any others.
pub stopped : (x y more : Judgement) (e : Refusal) → also x (also y (Ok tt)) ≡ Err e → also x (also y more) ≡ Err e
stopped (Err d) y more e p = p
stopped (Ok u) (Err d) more e p = p
stopped (Ok u) (Ok v) more e p = err_ok e (sym p)

pub goes_on : (x y more : Judgement) → also x (also y (Ok tt)) ≡ Ok tt → also x (also y more) ≡ more
goes_on (Err d) y more p = err_ok d p
goes_on (Ok u) (Err d) more p = err_ok d p
goes_on (Ok u) (Ok v) more p = refl

pub alone : (x : Judgement) → also x (Ok tt) ≡ x
alone (Ok u) = refl
alone (Err e) = refl

-- A call that hands a refusal on answers by it.
pub hands_on : {X Y : Type 0} (answer : Result X Y → Answer) (w : World) (d : Done) (r : Result X Y) (e : Y)
    → d ≡ record { world = w; answer = answer (Err e) } → IsErrAnd r (λ y. y ≡ e) → d ≡ record { world = w; answer = answer r }
hands_on {X} {Y} answer w d r e p h =
    let q = err_from_is_err_and r h in
    p ∙ ap {B = Done} (λ (z : Result X Y). record { world = w; answer = answer z }) (sym (q.1 ∙ ap (λ (y : Y). Err y) q.2))
