use Rattle.std.proofs.Common.{◌≡◌, ℕ, cond, ltb}
use Rattle.model.specs.Worlds.{jobs_of}
use Rattle.desk.specs.Owing.{released}
use Rattle.desk.proofs.desk.Desk.finish.Given as goal

-- The jobs so far are released, and the others as they were.
abbrev pub invariant-loop-job : goal.invariant-loop-job
invariant-loop-job l =
    (k : ℕ) → jobs_of l.self.engine.jobs k ≡ cond (ltb k l.job) (released (jobs_of l.initial.self.engine.jobs k)) (jobs_of l.initial.self.engine.jobs k)
