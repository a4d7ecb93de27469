use Rattle.std.proofs.Common.{Result, sym, ap, ◌∙◌}
use Rattle.refusal.specs.declared.Refusal.{Refusal}
use Rattle.engine.specs.Answers.{state_answer}
use Rattle.model.specs.declared.job.Job.{Job}
use Rattle.model.specs.declared.job.State.{State}
use Rattle.model.specs.Jobs.{state_of}
use Rattle.model.specs.Calls.{states, told}
use Rattle.model.specs.Acts.{judge_open_job}
use Rattle.model.specs.Worlds.{World, Done, world_of, jobs_of}
use Rattle.model.proofs.Settling.{refuses, accepts, settles_answer}
use Rattle.engine.proofs.Judged.{given, withheld, hands_on}
use Rattle.engine.proofs.jobs.Engine.state.Goals as goal

pub returns-in_err-record-clause-world : goal.returns-in_err-record-clause-world
returns-in_err-record-clause-world c =
    let j = c.args.job in
    let b : Job = jobs_of c.args.self.now.jobs j in
    λ m.
    let w : World = world_of c.args.self.now.jobs m in
    hands_on (λ (r : Result (Unit {0}) Refusal). state_answer r c.args.out.now) w _ _ _
    (refuses j states w c.in_err-record.field-0.0 (withheld (judge_open_job j b) b _ c.in_err-record.ensures))
    c.from_residual.ensures.1

pub returns-clause-world : goal.returns-clause-world
returns-clause-world c =
    let j = c.args.job in
    let b : Job = jobs_of c.args.self.now.jobs j in
    let took = given (judge_open_job j b) b c.in_ok-record.record c.in_ok-record.ensures in
    λ m.
    let w : World = world_of c.args.self.now.jobs m in
    accepts j states w took.0 ∙ settles_answer j w (told (state_of b))
    ∙ ap {B = Done} (λ (s : State). record { world = w; answer = told s }) (sym (c.state.ensures ∙ ap state_of took.1))
