use Rattle.pages.specs.Held.{shown}
use Rattle.pages.proofs.Seen.{Shows}
use Rattle.pages.proofs.sight.Sight.show.Given as goal

abbrev pub invariant-loop-i : goal.invariant-loop-i
invariant-loop-i g l =
    Shows l.i l.out l.at (shown l.self.table.now (g.M.Memory.mem l.self.memory.now))
