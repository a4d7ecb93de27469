use Rattle.std.proofs.Common.{◌≡◌, ℕ, ◌<◌, true, get_or, None, subst, arith}
use Rattle.model.specs.declared.job.Job.{Job}
use Rattle.model.specs.Worlds.{World, world_of}
use Rattle.engine.specs.Answers.{owed_of}
use Rattle.engine.proofs.Receipts.{RanSays, ran_says}
use Rattle.desk.specs.Owing.{owed_to}
use Rattle.desk.proofs.Owing.{all_kept}
use Rattle.desk.proofs.Keeping.{run_owes, run_refused}
use Rattle.desk.proofs.desk.Desk.run.Goals as goal

pub invariant_of-self : goal.invariant_of-self
invariant_of-self g c =
    let w : World = world_of c.args.self.now.engine.jobs (g.M.Memory.mem c.args.memory.now) in
    let v : World = world_of c.run.new.self.jobs (g.M.Memory.mem c.run.new.memory) in
    let same : w.jobs ≡ v.jobs = run_refused c.args.job c.args.limit w v c.in_err-run.field-0.0 c.in_err-run.ensures in
    record { kept = λ j. subst (λ (f : ℕ → Job). owed_to j (f j) (get_or c.args.self.now.held.receipts j None) ≡ true) same (c.args.self.now.kept j) }

pub invariant_of-self-2 : goal.invariant_of-self-2
invariant_of-self-2 g c =
    let self = c.args.self.now in
    let w : World = world_of self.engine.jobs (g.M.Memory.mem c.args.memory.now) in
    let v : World = world_of c.run.new.self.jobs (g.M.Memory.mem c.run.new.memory) in
    let run = c.in_ok-run.field-0.run in
    let receipt = c.in_ok-run.field-0.receipt in
    let says : RanSays c.args.job w v run (owed_of receipt) = ran_says c.args.job c.args.limit w v run (owed_of receipt) c.in_ok-run.ensures in
    record {
      kept = all_kept w.jobs v.jobs self.held.receipts c.replace.new.self.receipts c.args.job (v.jobs c.args.job) receipt self.kept
          (let low : c.args.job < 8 = says.low in omega (arith, self.held.eight)) says.jobs c.replace.ensures.after (run_owes c.args.job w v run receipt says);
    }
