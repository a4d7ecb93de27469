use Rattle.std.proofs.Common.{ap, ◌∙◌}
use Rattle.memory.specs.Memories.{Mem}
use Rattle.model.specs.Worlds.{World, world_of}
use Rattle.engine.specs.Answers.{owed_of}
use Rattle.engine.proofs.Receipts.{ran_says, ran_acceptable}
use Rattle.launch.specs.declared.Figure.{Figure}
use Rattle.launch.proofs.Ran.{ran_open}
use Rattle.launch.proofs.Stages.{open_ends, load_ends, run_ends, ran_ends}
use Rattle.launch.proofs.launch.Goals as goal

pub returns-in_err-open : goal.returns-in_err-open
returns-in_err-open g c =
    let m : Mem = g.M.Memory.mem c.args.memory.now in
    let ends =
    open_ends c.args.file.now m c.in_ok-image.image (world_of c.new-engine.result.jobs m) _ _ c.in_ok-image.ensures.answer (c.new-engine.ensures.world m) c.table.ensures c.start.ensures
    _ _ _ c.in_err-open.ensures c.from_residual-in_err-open.ensures.1 in
    record { answer = ends.0; after = ends.1 }

pub returns-in_err-load_all : goal.returns-in_err-load_all
returns-in_err-load_all g c =
    let m : Mem = g.M.Memory.mem c.args.memory.now in
    let ends =
    load_ends c.args.file.now m c.in_ok-image.image (world_of c.new-engine.result.jobs m) _ _ c.in_ok-image.ensures.answer (c.new-engine.ensures.world m) c.table.ensures c.start.ensures
    _ _ c.in_ok-open.ensures c.blocks-2.ensures _ _ _ c.in_err-load_all.ensures c.from_residual-in_err-load_all.ensures.1 in
    record { answer = ends.0; after = ends.1 }

pub returns-in_err-run : goal.returns-in_err-run
returns-in_err-run g c =
    let m : Mem = g.M.Memory.mem c.args.memory.now in
    let ends =
    run_ends c.args.file.now m c.in_ok-image.image (world_of c.new-engine.result.jobs m) _ _ c.in_ok-image.ensures.answer (c.new-engine.ensures.world m) c.table.ensures c.start.ensures
    _ _ c.in_ok-open.ensures c.blocks-2.ensures _ c.in_ok-load_all.ensures _ _ _ c.in_err-run.ensures c.from_residual-in_err-run.ensures.1 in
    record { answer = ends.0; after = ends.1 }

pub accumulator-requires : goal.accumulator-requires
accumulator-requires g c =
    let u : World = world_of c.open.new.self.jobs (g.M.Memory.mem c.load_all.new.memory) in
    let v : World = world_of c.run.new.self.jobs (g.M.Memory.mem c.run.new.memory) in
    ran_open 0 u v _ _ (ran_says 0 65535 u v _ (owed_of c.in_ok-run.field-0.receipt) c.in_ok-run.ensures)

pub abandon_owed-requires : goal.abandon_owed-requires
abandon_owed-requires g c =
    let u : World = world_of c.open.new.self.jobs (g.M.Memory.mem c.load_all.new.memory) in
    let v : World = world_of c.run.new.self.jobs (g.M.Memory.mem c.run.new.memory) in
    ran_acceptable 0 u v _ _ (ran_says 0 65535 u v _ (owed_of c.in_ok-run.field-0.receipt) c.in_ok-run.ensures)

pub returns : goal.returns
returns g c =
    let m : Mem = g.M.Memory.mem c.args.memory.now in
    let ends =
    ran_ends c.args.file.now m c.in_ok-image.image (world_of c.new-engine.result.jobs m) _ _ c.in_ok-image.ensures.answer (c.new-engine.ensures.world m) c.table.ensures c.start.ensures
    _ _ c.in_ok-open.ensures c.blocks-2.ensures _ c.in_ok-load_all.ensures _ c.in_ok-run.field-0.run (owed_of c.in_ok-run.field-0.receipt) _ c.in_ok-run.ensures
    (c.figure_of-figure.ensures ∙ ap {B = Figure} (λ a. record { stop = c.in_ok-run.field-0.run.stop; steps = c.in_ok-run.field-0.run.steps; a = a }) c.accumulator.ensures) in
    record { answer = ends.0; after = ends.1 }
