use Rattle.std.proofs.Common.{◌≡◌, ap, ◌∙◌}
use Rattle.engine.specs.Answers.{ran_answer}
use Rattle.memory.specs.Memories.{Mem}
use Rattle.model.specs.declared.job.Job.{Job}
use Rattle.model.specs.Jobs.{ran_job}
use Rattle.model.specs.Calls.{runs}
use Rattle.model.specs.Acts.{judge_run, owed_by}
use Rattle.model.specs.Worlds.{World, world_of, jobs_of, upd}
use Rattle.model.proofs.Settling.{refuses, accepts}
use Rattle.model.proofs.Landings.{run_settles, run_at, frame_at}
use Rattle.engine.proofs.Judged.{given, withheld, hands_on}
use Rattle.engine.proofs.jobs.Engine.run.Goals as goal

pub returns-in_err-record : goal.returns-in_err-record
returns-in_err-record g c =
    let w : World = world_of c.args.self.now.jobs (g.M.Memory.mem c.args.memory.now) in
    let j = c.args.job in
    hands_on ran_answer w _ _ _
    (refuses j (runs c.args.limit) w c.in_err-record.field-0.0 (withheld (judge_run j c.args.limit (w.jobs j)) (w.jobs j) _ c.in_err-record.ensures))
    c.from_residual.ensures.1

pub returns : goal.returns
returns g c =
    let w : World = world_of c.args.self.now.jobs (g.M.Memory.mem c.args.memory.now) in
    let m : Mem = g.M.Memory.mem c.run_job-run.new.memory in
    let j = c.args.job in
    let n = c.args.limit in
    let b : Job = w.jobs j in
    let r = c.run_job-run.result in
    let cpu = c.run_job-run.new.processor in
    let took = given (judge_run j n b) b c.in_ok-record.record c.in_ok-record.ensures in
    let same : c.in_ok-record.record ≡ b = took.1 in
    let table : c.table_of-table.result.entries ≡ b.table = c.table_of-table.ensures ∙ ap (λ (x : Job). x.table) same in
    let seat : c.count.new.seat ≡ ran_job b r cpu = c.count.ensures ∙ ap (λ (x : Job). ran_job x r cpu) same in
    let put : jobs_of c.set_record.new.self.jobs ≡ upd w.jobs j (ran_job b r cpu) = c.set_record.ensures ∙ ap (upd w.jobs j) seat in
    accepts j (runs n) w took.0
    ∙ run_settles j n w cpu r (jobs_of c.set_record.new.self.jobs) m _
    (run_at c.table_of-table.result.entries b.table n r c.in_ok-record.record.processor b.processor cpu m w.mem table (ap (λ (x : Job). x.processor) same) c.run_job-run.ensures.all)
    (frame_at c.table_of-table.result.entries b.table m w.mem table c.run_job-run.ensures.kept)
    put
    (c.receipt_for.ensures ∙ ap (λ (x : Job). owed_by r.stop j x.calls) seat)
