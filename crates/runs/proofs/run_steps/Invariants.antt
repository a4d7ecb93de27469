use Rattle.std.proofs.Common.{◌≡◌, ◌-◌, ◌*◌, ◌≤◌}
use Rattle.runs.specs.Runs.{run_of}
use Rattle.runs.proofs.run_steps.Given as goal

-- What is left of the run from here is the whole run; and the time fits.
abbrev pub invariant-loop-steps : goal.invariant-loop-steps
invariant-loop-steps g l =
    (run_of (l.limit - l.steps) l.steps l.time l.cpu (g.S.Space.cells l.space)
    ≡ run_of l.limit 0 0 l.initial.cpu (g.S.Space.cells l.initial.space))
    × (g.S.Space.frame l.space ≡ g.S.Space.frame l.initial.space)
    × (l.time ≤ l.steps * 4294967295)
