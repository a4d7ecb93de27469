use Rattle.std.proofs.Common.{rules, tests}
use Rattle.refusal.proofs.Searches.{found}
use Rattle.pages.specs.Held.{shown}
use Rattle.pages.specs.Entries.{refuses_at}
use Rattle.pages.proofs.sight.Sight.first_unwritable.Goals as goal

pub returns : goal.returns
unfolding shown
returns g c =
    found (refuses_at (shown c.args.self.now.table.now (g.M.Memory.mem c.args.self.now.memory.now))) _ _ _ _ c.find.ensures.ran (λ x b q k. search (rules, tests))
