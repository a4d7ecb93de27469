use Rattle.std.proofs.Common.{ap, ◌∙◌}
use Rattle.engine.specs.Answers.{done_answer}
use Rattle.model.specs.declared.job.Job.{Job}
use Rattle.model.specs.Calls.{loads}
use Rattle.model.specs.Acts.{no_such_job, not_open, judge_open_job}
use Rattle.model.specs.Worlds.{World, world_of}
use Rattle.model.proofs.Settling.{refuses}
use Rattle.engine.proofs.Judged.{given, withheld, stopped, hands_on}
use Rattle.engine.proofs.Loaded.{load_settles}
use Rattle.engine.proofs.jobs.Engine.load.Goals as goal

pub returns-in_err-record : goal.returns-in_err-record
returns-in_err-record g c =
    let w : World = world_of c.args.self.now.jobs (g.M.Memory.mem c.args.memory.now) in
    let j = c.args.job in
    let b = w.jobs j in
    hands_on done_answer w _ _ _
    (refuses j (loads c.args.at c.args.bytes.now) w c.in_err-record.field-0.0
    (stopped (no_such_job j) (not_open b) _ _ (withheld (judge_open_job j b) b _ c.in_err-record.ensures)))
    c.from_residual.ensures.1

pub returns : goal.returns
returns g c =
    let w : World = world_of c.args.self.now.jobs (g.M.Memory.mem c.args.memory.now) in
    let j = c.args.job in
    let b = w.jobs j in
    let took = given (judge_open_job j b) b c.in_ok-record.record c.in_ok-record.ensures in
    load_settles j c.args.at c.args.bytes.now w (g.M.Memory.mem c.load.new.memory) c.load.result took.0
    c.table_of.result.entries (c.table_of.ensures ∙ ap (λ (x : Job). x.table) took.1) c.load.ensures.answer c.load.ensures.after
