use Rattle.std.proofs.Common.{rules, tests}
use Rattle.refusal.proofs.Searches.{found}
use Rattle.pages.specs.Entries.{reserved_at}
use Rattle.pages.proofs.entries.first_reserved.Goals as goal

pub returns : goal.returns
returns c = found (reserved_at c.args.table.now) _ _ _ _ c.find.ensures.ran (λ x b q k. search (rules, tests))
