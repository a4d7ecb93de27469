use Rattle.std.proofs.Common.{rules}
use Rattle.std.proofs.lemmas.Slice.Eq.{slice_eq-Decides}
use Rattle.office.proofs.bill.same_charges.Goals as goal

pub returns : goal.returns
returns c = slice_eq-Decides (λ a b. search rules) _ _ _ c.eq.ensures
