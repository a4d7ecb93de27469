use Rattle.std.proofs.Common.{length, ap}
use Rattle.model.specs.declared.job.Job.{Job}
use Rattle.model.specs.Calls.{looks}
use Rattle.model.specs.Acts.{no_such_job, not_open, judge_open_job}
use Rattle.model.specs.Worlds.{World, world_of}
use Rattle.model.proofs.Settling.{refuses}
use Rattle.engine.specs.Answers.{look_answer}
use Rattle.engine.proofs.Judged.{given, withheld, stopped, hands_on}
use Rattle.engine.proofs.Looked.{look_settles, look_leaves}
use Rattle.engine.proofs.jobs.Engine.look.Goals as goal

pub returns-in_err-record-clause-world : goal.returns-in_err-record-clause-world
returns-in_err-record-clause-world g c =
    let w : World = world_of c.args.self.now.jobs (g.M.Memory.mem c.args.memory.now) in
    let j = c.args.job in
    let b = w.jobs j in
    hands_on (λ r. look_answer r c.args.out.now) w _ _ _
    (refuses j (looks c.args.at (length c.args.out.now)) w c.in_err-record.field-0.0
    (stopped (no_such_job j) (not_open b) _ _ (withheld (judge_open_job j b) b _ c.in_err-record.ensures)))
    c.from_residual.ensures.1

pub returns : goal.returns
returns g c =
    let w : World = world_of c.args.self.now.jobs (g.M.Memory.mem c.args.memory.now) in
    let j = c.args.job in
    let b = w.jobs j in
    let took = given (judge_open_job j b) b c.in_ok-record.record c.in_ok-record.ensures in
    record {
      world =
          look_settles j c.args.at w c.args.out.now c.look.new.out took.0 c.in_ok-record.record.table c.look.result
          (ap (λ (x : Job). x.table) took.1) c.look.ensures.answer c.look.ensures.after;
      untouched = look_leaves c.look.result c.args.out.now c.look.new.out _ c.look.ensures.after;
    }
