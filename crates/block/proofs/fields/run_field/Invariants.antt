use Rattle.std.proofs.Common.{◌≡◌, ◌-◌}
use Rattle.block.specs.Fields.{field_from, field_of}
use Rattle.block.proofs.fields.run_field.Given as goal

-- What is left to do from here is what was to do from the start.
abbrev pub invariant-loop : goal.invariant-loop
invariant-loop g l =
    (field_from l.op l.flags (l.end - l.counter) l.bank (g.S.Space.cells l.space) ≡ field_of l.fn.op l.fn.bank (g.S.Space.cells l.fn.space))
    × (g.S.Space.frame l.space ≡ g.S.Space.frame l.fn.space)
