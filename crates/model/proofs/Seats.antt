-- The records of a new engine.
use Rattle.std.proofs.Common.{◌≡◌, ℕ, zero, suc, ◌*◌, ◌≤◌, false, [], get_or, replicate, sym, refl, ap, ◌∙◌, subst, lit≤}
use Rattle.refusal.specs.Judging.{first_from}
use Rattle.pages.specs.Held.{named, finds}
use Rattle.model.specs.declared.job.Job.{Job}
use Rattle.model.specs.Jobs.{closed_job}
use Rattle.model.specs.Worlds.{no_job, jobs_of, twice}

-- What holds of a closed record holds of each.
pub seats : (P : Job → Type 0) → P closed_job → P no_job → (n k : ℕ) → P (get_or (replicate n closed_job) k no_job)
seats P c o zero k = o
seats P c o (suc n) zero = c
seats P c o (suc n) (suc k) = seats P c o n k

-- A list of one value has it at each place, and past its end too.
pub replicated : {A : Type 0} (x : A) (n k : ℕ) → get_or (replicate n x) k x ≡ x
replicated x zero k = refl
replicated x (suc n) zero = refl
replicated x (suc n) (suc k) = replicated x n k

shut_once : twice closed_job.table ≡ false
unfolding first_from named finds
shut_once = refl

none_once : twice [] ≡ false
unfolding first_from named finds
none_once = refl

-- A closed record keeps what an engine keeps of its records.
pub closed_once : (b : Job) → b ≡ closed_job → twice b.table ≡ false
closed_once b e = ap (λ (x : Job). twice x.table) e ∙ shut_once

pub closed_timed : (b : Job) → b ≡ closed_job → b.time ≤ b.steps * 4294967295
closed_timed b e = subst (λ (x : Job). x.time ≤ x.steps * 4294967295) (sym e) (lit≤ tt)

pub closed_called : (b : Job) → b ≡ closed_job → b.calls ≤ b.steps
closed_called b e = subst (λ (x : Job). x.calls ≤ x.steps) (sym e) (lit≤ tt)

pub new_once : (j : ℕ) → twice (jobs_of (replicate 8 closed_job) j).table ≡ false
new_once j = seats (λ b. twice b.table ≡ false) shut_once none_once 8 j

pub new_timed : (j : ℕ) → (jobs_of (replicate 8 closed_job) j).time ≤ (jobs_of (replicate 8 closed_job) j).steps * 4294967295
new_timed j = seats (λ b. b.time ≤ b.steps * 4294967295) (lit≤ tt) (lit≤ tt) 8 j

pub new_called : (j : ℕ) → (jobs_of (replicate 8 closed_job) j).calls ≤ (jobs_of (replicate 8 closed_job) j).steps
new_called j = seats (λ b. b.calls ≤ b.steps) (lit≤ tt) (lit≤ tt) 8 j
