use Rattle.std.proofs.Common.{◌≡◌}
use Rattle.pages.specs.Held.{zeroed_page}
use Rattle.pages.proofs.clearing.clear_page.Given as goal

abbrev pub invariant-loop-i : goal.invariant-loop-i
invariant-loop-i g l =
    g.M.Memory.mem l.memory
    ≡ record { byte = zeroed_page l.page.number l.i (g.M.Memory.mem l.initial.memory).byte; takes = (g.M.Memory.mem l.initial.memory).takes }
