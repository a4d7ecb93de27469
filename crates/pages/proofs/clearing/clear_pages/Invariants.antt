use Rattle.std.proofs.Common.{◌≡◌}
use Rattle.pages.specs.Held.{zeroed}
use Rattle.pages.proofs.clearing.clear_pages.Given as goal

abbrev pub invariant-loop-bits : goal.invariant-loop-bits
invariant-loop-bits g l =
    g.M.Memory.mem l.memory
    ≡ record { byte = zeroed l.bits-index l.table (g.M.Memory.mem l.initial.memory); takes = (g.M.Memory.mem l.initial.memory).takes }
