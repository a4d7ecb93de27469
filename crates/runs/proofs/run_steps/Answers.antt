use Rattle.std.proofs.Common.{◌+◌, ◌-◌, Ok, Err, sym, ap, ◌∙◌, arith}
use Rattle.processor.specs.Steps.{stepped}
use Rattle.runs.specs.Runs.{on_trap, run_of}
use Rattle.runs.proofs.Turning.{turn}
use Rattle.runs.proofs.run_steps.Goals as goal

pub returns-in-Err : goal.returns-in-Err
returns-in-Err g c =
    record {
      all =
          turn c.args.limit c.loop-steps.steps c.loop-steps.time c.loop-steps.cpu (g.S.Space.cells c.loop-steps.space)
          (stepped (Err c.in-Err.fault) c.step.new.cpu (g.S.Space.cells c.step.new.space)) (omega arith) c.in-Err.ensures.all
          ∙ c.loop-steps.invariant.0;
      kept = c.in-Err.ensures.kept ∙ c.loop-steps.invariant.1;
      bounded = c.loop-steps.invariant.2;
    }

pub returns-in-Some : goal.returns-in-Some
returns-in-Some g c =
    record {
      all =
          ap (λ x. on_trap x (c.loop-steps.steps + 1) (c.loop-steps.time + c.in-Ok.done.time) (run_of (c.args.limit - (c.loop-steps.steps + 1)))
          c.step.new.cpu (g.S.Space.cells c.step.new.space)) (sym c.in-Some.is)
          ∙ turn c.args.limit c.loop-steps.steps c.loop-steps.time c.loop-steps.cpu (g.S.Space.cells c.loop-steps.space)
          (stepped (Ok c.in-Ok.done) c.step.new.cpu (g.S.Space.cells c.step.new.space)) (omega arith) c.in-Ok.ensures.all
          ∙ c.loop-steps.invariant.0;
      kept = c.in-Ok.ensures.kept ∙ c.loop-steps.invariant.1;
      bounded = omega arith;
    }

pub loop-steps-preserved : goal.loop-steps-preserved
loop-steps-preserved g c = (
  ap (λ x. on_trap x (c.loop-steps.steps + 1) (c.loop-steps.time + c.in-Ok.done.time) (run_of (c.args.limit - (c.loop-steps.steps + 1)))
      c.step.new.cpu (g.S.Space.cells c.step.new.space)) (sym c.in_default.is)
      ∙ turn c.args.limit c.loop-steps.steps c.loop-steps.time c.loop-steps.cpu (g.S.Space.cells c.loop-steps.space)
      (stepped (Ok c.in-Ok.done) c.step.new.cpu (g.S.Space.cells c.step.new.space)) (omega arith) c.in-Ok.ensures.all
      ∙ c.loop-steps.invariant.0,
  c.in-Ok.ensures.kept ∙ c.loop-steps.invariant.1,
  omega arith,
)
