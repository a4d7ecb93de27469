use Rattle.std.proofs.Common.{refl, ap, ◌∙◌, rules}
use Rattle.model.specs.declared.job.Job.{Job}
use Rattle.model.specs.Jobs.{replied_job}
use Rattle.model.specs.Calls.{replies}
use Rattle.model.specs.Worlds.{world_of}
use Rattle.engine.proofs.Receipts.{handed_back, carried_out}
use Rattle.engine.proofs.jobs.Engine.reply.Goals as goal

pub returns-in_err-job-clause-world : goal.returns-in_err-job-clause-world
returns-in_err-job-clause-world c =
    λ m. handed_back c.args.receipt.job (replies c.args.receipt.number c.args.registers) (world_of c.args.self.now.jobs m) _ _ c.in_err-job.ensures.judged c.from_residual.ensures.1

pub returns-clause-world : goal.returns-clause-world
returns-clause-world c =
    λ m.
    carried_out c.args.receipt.job (replies c.args.receipt.number c.args.registers) (world_of c.args.self.now.jobs m) c.in_ok-job.field-0.job c.in_ok-job.field-0.record _
    c.replied.result _ c.in_ok-job.ensures.judged refl (search rules) (λ e. c.replied.ensures ∙ ap (λ (b : Job). replied_job b c.args.registers) e) c.set_record.ensures
