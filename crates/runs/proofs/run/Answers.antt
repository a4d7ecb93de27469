use Rattle.runs.specs.Runs.{ran}
use Rattle.runs.proofs.Lawful.{run_laws, run_calls, step_laws}
use Rattle.runs.proofs.run.Goals as goal

-- The laws hold of what the steps gave.
pub returns : goal.returns
returns g c =
    let s = g.S.Space.cells c.args.space.now in
    let o = ran c.run_steps.result c.run_steps.new.cpu (g.S.Space.cells c.run_steps.new.space) in
    record {
      all = c.run_steps.ensures.all;
      kept = c.run_steps.ensures.kept;
      bounded = c.run_steps.ensures.bounded;
      called = run_calls c.args.limit c.args.cpu.now s o c.run_steps.ensures.all;
      laws = run_laws c.args.limit c.args.cpu.now s o c.run_steps.ensures.all;
      each = step_laws;
    }
