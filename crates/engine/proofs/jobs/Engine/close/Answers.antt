use Rattle.std.proofs.Common.{◌∙◌}
use Rattle.model.specs.Jobs.{closed_job}
use Rattle.model.specs.Calls.{closes, done}
use Rattle.model.specs.Acts.{judge_close}
use Rattle.model.specs.Worlds.{World, world_of, jobs_of}
use Rattle.model.proofs.Settling.{refuses, accepts, settles_record}
use Rattle.engine.specs.Answers.{done_answer}
use Rattle.engine.proofs.Judged.{given, withheld, hands_on}
use Rattle.engine.proofs.jobs.Engine.close.Goals as goal

pub returns-in_err-idle_record : goal.returns-in_err-idle_record
returns-in_err-idle_record c =
    let j = c.args.job in
    let b = jobs_of c.args.self.now.jobs j in
    λ m.
    let w : World = world_of c.args.self.now.jobs m in
    hands_on done_answer w _ _ _
    (refuses j closes w c.in_err-idle_record.field-0.0 (withheld (judge_close j b) b _ c.in_err-idle_record.ensures))
    c.from_residual.ensures.1

pub returns : goal.returns
returns c =
    let j = c.args.job in
    let b = jobs_of c.args.self.now.jobs j in
    let took = given (judge_close j b) b _ c.in_ok-idle_record.ensures in
    λ m.
    let w : World = world_of c.args.self.now.jobs m in
    accepts j closes w took.0
    ∙ settles_record j w closed_job (jobs_of c.vacate.new.self.jobs) done c.vacate.ensures
