use Rattle.std.proofs.Common.{◌≡◌}
use Rattle.block.specs.Transfers.{block_of}
use Rattle.block.proofs.Turns.{Onward}
use Rattle.block.proofs.transfers.run_block.Given as goal

-- What is left to do from here is what was to do from the start.
abbrev pub invariant-loop-before : goal.invariant-loop-before
invariant-loop-before g l =
    Onward l.kind l.most l.before l.sum l.bank (g.S.Space.cells l.space) (block_of l.fn.kind l.fn.bank (g.S.Space.cells l.fn.space))
    × (g.S.Space.frame l.space ≡ g.S.Space.frame l.fn.space)
