use Rattle.std.proofs.Common.{◌≡◌, ℕ, Some, sym, ◌∙◌, subst}
use Rattle.model.specs.declared.job.Job.{Job}
use Rattle.model.specs.declared.job.Status.TheVariants.{Waiting}
use Rattle.model.specs.Worlds.{World, world_of, jobs_of}
use Rattle.engine.specs.declared.receipt.Receipt.{Receipt}
use Rattle.engine.specs.Answers.{owed_of}
use Rattle.engine.specs.Receipts.{Acceptable}
use Rattle.manual.proofs.Waits.{owing}
use Rattle.manual.proofs.owing.show_elsewhere.Goals as goal

pub run_waiting-waiting-requires : goal.run_waiting-waiting-requires
run_waiting-waiting-requires g c =
    let w : World = world_of c.args.engine.now.jobs (g.M.Memory.mem c.args.memory.now) in
    let v : World = world_of c.run.new.self.jobs (g.M.Memory.mem c.run.new.memory) in
    (owing 9 w v _ _ c.in-Some.owed c.in_ok-receipt.ensures c.in-Some.is).waiting

-- The closing is tried while it still waits.
pub close_waiting-closing-requires : goal.close_waiting-closing-requires
close_waiting-closing-requires g c =
    let w : World = world_of c.args.engine.now.jobs (g.M.Memory.mem c.args.memory.now) in
    let v : World = world_of c.run.new.self.jobs (g.M.Memory.mem c.run.new.memory) in
    subst (λ (js : ℕ → Job). (js 0).status ≡ Waiting) (sym c.run_waiting-waiting.ensures) (owing 9 w v _ _ c.in-Some.owed c.in_ok-receipt.ensures c.in-Some.is).waiting

-- The other engine refused it and handed it back, and nothing changed its job meanwhile.
pub map_err-elsewhere-requires : goal.map_err-elsewhere-requires
map_err-elsewhere-requires g c =
    let w : World = world_of c.args.engine.now.jobs (g.M.Memory.mem c.args.memory.now) in
    let v : World = world_of c.run.new.self.jobs (g.M.Memory.mem c.run.new.memory) in
    let still : Acceptable (owed_of (Some c.in-Some.owed)) (jobs_of c.close_waiting-closing.new.engine.jobs) =
    subst (λ (js : ℕ → Job). Acceptable (owed_of (Some c.in-Some.owed)) js) (sym (c.close_waiting-closing.ensures ∙ c.run_waiting-waiting.ensures))
    (owing 9 w v _ _ c.in-Some.owed c.in_ok-receipt.ensures c.in-Some.is).acceptable in
    λ e is _ _ _ _ _ _.
    let handed : e.receipt ≡ c.in-Some.owed = rw is at c.abandon.ensures.handed in
    subst (λ (r : Receipt). Acceptable (owed_of (Some r)) (jobs_of c.close_waiting-closing.new.engine.jobs)) (sym handed) still
