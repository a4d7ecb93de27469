use Rattle.std.proofs.Common.{refl, rules}
use Rattle.model.specs.Jobs.{closed_job}
use Rattle.model.specs.Calls.{abandons}
use Rattle.model.specs.Worlds.{world_of}
use Rattle.engine.proofs.Receipts.{handed_back, carried_out}
use Rattle.engine.proofs.jobs.Engine.abandon.Goals as goal

pub returns-in_err-job-clause-world : goal.returns-in_err-job-clause-world
returns-in_err-job-clause-world c =
    λ m. handed_back c.args.receipt.job (abandons c.args.receipt.number) (world_of c.args.self.now.jobs m) _ _ c.in_err-job.ensures.judged c.from_residual.ensures.1

pub returns-clause-world : goal.returns-clause-world
returns-clause-world c =
    λ m.
    carried_out c.args.receipt.job (abandons c.args.receipt.number) (world_of c.args.self.now.jobs m) c.in_ok-job.field-0.job _ closed_job closed_job _ c.in_ok-job.ensures.judged
    refl (search rules) (λ e. refl) c.vacate.ensures
