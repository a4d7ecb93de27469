use Rattle.std.proofs.Common.{Err, Result, ap, ◌∙◌}
use Rattle.std.proofs.lemmas.Result.{err_from_is_err_and}
use Rattle.refusal.specs.declared.Refusal.{Refusal}
use Rattle.image.specs.Parts.{left, block_of}
use Rattle.model.specs.Worlds.{World, world_of}
use Rattle.launch.specs.Launches.{loaded_by}
use Rattle.launch.proofs.Stages.{load_one, load_stop, load_end}
use Rattle.launch.proofs.load_all.Goals as goal

pub loop-block-preserved : goal.loop-block-preserved
loop-block-preserved g c =
    load_one (left c.loop-block.block-iterator) (world_of c.args.engine.now.jobs (g.M.Memory.mem c.loop-block.memory)) (block_of c.in-Some.block) (left c.next.new.self)
    (world_of c.args.engine.now.jobs (g.M.Memory.mem c.load.new.memory)) c.in-Some.ensures.steps c.in_ok-load.ensures
    ∙ c.loop-block.invariant

pub returns-in_err-load : goal.returns-in_err-load
returns-in_err-load g c =
    let v : World = world_of c.args.engine.now.jobs (g.M.Memory.mem c.load.new.memory) in
    let p = err_from_is_err_and c.from_residual.result c.from_residual.ensures.1 in
    ap (λ (r : Result (Unit {0}) Refusal). loaded_by r v) (p.1 ∙ ap (λ (e : Refusal). Err e) p.2)
    ∙ load_stop (left c.loop-block.block-iterator) (world_of c.args.engine.now.jobs (g.M.Memory.mem c.loop-block.memory)) (block_of c.in-Some.block) (left c.next.new.self) v
    c.in_err-load.field-0.0 c.in-Some.ensures.steps c.in_err-load.ensures
    ∙ c.loop-block.invariant

pub returns : goal.returns
returns g c =
    load_end (left c.loop-block.block-iterator) (world_of c.args.engine.now.jobs (g.M.Memory.mem c.loop-block.memory)) c.in-None.ensures.steps.0
    ∙ c.loop-block.invariant
