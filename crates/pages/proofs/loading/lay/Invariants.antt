use Rattle.pages.proofs.Lays.{Laying}
use Rattle.pages.proofs.loading.lay.Given as goal

abbrev pub invariant-loop-i : goal.invariant-loop-i
invariant-loop-i g l =
    Laying l.table.entries l.at l.bytes (g.M.Memory.mem l.initial.memory) l.i (g.M.Memory.mem l.memory)
