use Rattle.std.proofs.Common.{◌≡◌, ℕ, ◌+◌, ◌-◌, Ok, ap, ◌∙◌, arith}
use Rattle.block.specs.Afters.{after}
use Rattle.block.specs.Fields.{field_from}
use Rattle.block.proofs.FieldTurns.{field_turn}
use Rattle.block.proofs.fields.run_field.Goals as goal

pub loop-preserved : goal.loop-preserved
loop-preserved g c =
    let left : ℕ = c.width_of-end.result - c.loop.counter in
    let fewer : c.width_of-end.result - (c.loop.counter + 1) ≡ left - 1 = omega arith in (
      ap (λ n. field_from c.args.op c.args.bank.now.flags n c.field_element.new.bank (g.S.Space.cells c.field_element.new.space)) fewer
          ∙ field_turn c.args.op c.args.bank.now.flags left c.loop.bank (g.S.Space.cells c.loop.space)
          (after (Ok tt) c.field_element.new.bank (g.S.Space.cells c.field_element.new.space)) (omega arith) c.in_default.ensures.all
          ∙ c.loop.invariant.0,
      c.in_default.ensures.kept ∙ c.loop.invariant.1,
    )
