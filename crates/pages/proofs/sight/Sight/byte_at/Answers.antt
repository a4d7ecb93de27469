use Rattle.std.proofs.Common.{rules}
use Rattle.pages.specs.Held.{shown}
use Rattle.pages.proofs.sight.Sight.byte_at.Goals as goal

pub returns-then-access : goal.returns-then-access
unfolding shown
returns-then-access g c = search rules

pub returns-else-access : goal.returns-else-access
unfolding shown
returns-else-access g c = search rules
