-- When two bills agree.
use Rattle.std.specs.Prelude.{◌≡◌, vec_items}
use Rattle.office.specs.declared.bill.Bill.{Bill}

pub record Agrees (x y : Bill) : Type 0 where
  pub charges : vec_items x.charges ≡ vec_items y.charges
  pub steps : x.steps ≡ y.steps
  pub time : x.time ≡ y.time
