use Rattle.std.proofs.Common.{ap, ◌∙◌}
use Rattle.memory.specs.Memories.{in_set}
use Rattle.memory.proofs.Masks.{with_one}
use Rattle.memory.proofs.sets.PageSet.with.Goals as goal

pub returns : goal.returns
returns c p h =
    ap (λ m. in_set m p) c.mask_with.ensures ∙ with_one c.args.self.mask p c.args.page.number c.args.page.small
