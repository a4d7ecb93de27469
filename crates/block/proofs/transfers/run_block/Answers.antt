use Rattle.std.proofs.Common.{ℕ, ◌+◌, ◌-◌, ◌∙◌, rules}
use Rattle.block.proofs.Turns.{stopped, matched, unmatched}
use Rattle.block.proofs.transfers.run_block.Goals as goal

pub returns-in_err-sum-clause-all : goal.returns-in_err-sum-clause-all
returns-in_err-sum-clause-all g c =
    let left : ℕ = c.from-most.result + 1 - 1 - c.loop-before.before in
    let t =
    stopped c.args.kind c.loop-before.bank (g.S.Space.cells c.loop-before.space) c.loop-before.before c.element.new.bank
    (g.S.Space.cells c.element.new.space) left c.in_err-sum.field-0.0 c.in_err-sum.ensures.all
    ∙ c.loop-before.invariant.0.more c.loop-before-test.true
    in
    search rules

pub returns-then-sum-eq256-clause-all : goal.returns-then-sum-eq256-clause-all
returns-then-sum-eq256-clause-all g c =
    let left : ℕ = c.from-most.result + 1 - 1 - c.loop-before.before in
    let t =
    matched c.args.kind c.loop-before.bank (g.S.Space.cells c.loop-before.space) c.loop-before.before c.element.new.bank
    (g.S.Space.cells c.element.new.space) left c.in_ok-sum.sum c.in_ok-sum.ensures.all c.if-sum-eq256.true
    ∙ c.loop-before.invariant.0.more c.loop-before-test.true
    in
    search rules

pub loop-before-preserved : goal.loop-before-preserved
loop-before-preserved g c = (
  unmatched c.args.kind c.loop-before.bank (g.S.Space.cells c.loop-before.space) c.loop-before.before c.element.new.bank
      (g.S.Space.cells c.element.new.space) (c.from-most.result + 1) c.in_ok-sum.sum _ c.loop-before-test.true c.in_ok-sum.ensures.all c.if-sum-eq256.false
      (c.loop-before.invariant.0.more c.loop-before-test.true),
  c.in_ok-sum.ensures.kept ∙ c.loop-before.invariant.1,
)
