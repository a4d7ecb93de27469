use Rattle.std.proofs.Common.{◌≡◌, ℕ, ◌*◌, ◌≤◌, false, List, sym, ap, subst}
use Rattle.model.specs.declared.job.Job.{Job}
use Rattle.model.specs.Worlds.{world_of, jobs_of, twice}
use Rattle.model.proofs.Seats.{new_once, new_timed, new_called}
use Rattle.protection.proofs.Whole.{protected}
use Rattle.engine.proofs.jobs.Engine.new.Goals as goal

pub returns : goal.returns
returns c = record { world = λ m. ap (λ (js : List Job). world_of js m) c.closed_jobs.ensures; protected = protected }

pub invariant_of-result : goal.invariant_of-result
invariant_of-result c =
    let e = sym c.closed_jobs.ensures in
    record {
      once = subst (λ (js : List Job). (j : ℕ) → twice (jobs_of js j).table ≡ false) e new_once;
      timed = subst (λ (js : List Job). (j : ℕ) → (jobs_of js j).time ≤ (jobs_of js j).steps * 4294967295) e new_timed;
      called = subst (λ (js : List Job). (j : ℕ) → (jobs_of js j).calls ≤ (jobs_of js j).steps) e new_called;
    }
