use Rattle.std.proofs.Common.{ℕ, List, sym, subst}
use Rattle.cases.specs.Samples.{Halts}
use Rattle.cases.proofs.Computed.{worked, sample_halts}
use Rattle.cases.proofs.sample_image.Goals as goal

pub returns : goal.returns
returns c =
    record {
      bytes = c.sample.ensures;
      halts = subst (λ (bs : List ℕ). Halts bs) (sym c.sample.ensures) sample_halts;
      worked = worked;
    }
