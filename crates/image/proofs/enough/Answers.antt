use Rattle.image.proofs.Cut.{suffices}
use Rattle.image.proofs.enough.Goals as goal

pub returns : goal.returns
returns c = suffices
