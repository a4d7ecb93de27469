use Rattle.std.proofs.Common.{rules, tests}
use Rattle.refusal.proofs.Searches.{found}
use Rattle.pages.specs.Entries.{fixed_at}
use Rattle.pages.proofs.entries.first_fixed.Goals as goal

pub returns : goal.returns
returns g c = found (fixed_at c.args.table.now (g.M.Memory.mem c.args.memory.now).takes) _ _ _ _ c.find.ensures.ran (λ x b q k. search (rules, tests))
