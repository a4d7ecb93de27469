use Rattle.std.proofs.Common.{ap, ◌∙◌}
use Rattle.model.specs.declared.job.Job.{Job}
use Rattle.model.specs.Worlds.{twice}
use Rattle.model.proofs.Tables.{once_apart}
use Rattle.engine.proofs.jobs.Engine.table_of.Goals as goal

pub invariant_of-result : goal.invariant_of-result
invariant_of-result c = record { apart = once_apart c.args.seat.now.table (ap (λ (b : Job). twice b.table) c.requires ∙ c.args.self.now.once c.args.job) }
