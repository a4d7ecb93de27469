use Rattle.std.proofs.Common.{rules, tests}
use Rattle.refusal.proofs.Searches.{found}
use Rattle.pages.specs.Entries.{again_at}
use Rattle.pages.proofs.entries.first_named_again.Goals as goal

pub returns : goal.returns
returns c = found (again_at c.args.table.now) _ _ _ _ c.find.ensures.ran (λ x b q k. search (rules, tests))
