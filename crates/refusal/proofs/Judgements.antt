-- What it says that no ground of a list refuses.
use Rattle.std.proofs.Common.{◌≡◌, ℕ, Bool, true, false, Some, None, Ok, Err, Option, refl, arith}
use Rattle.refusal.specs.declared.Ground.{Ground}
use Rattle.refusal.specs.declared.Refusal.{Refusal}
use Rattle.refusal.specs.Judging.{Judgement, when, at, also}

-- A refusal is no acceptance.
pub err_ok : {A : Type 0} (e : Refusal) → ◌≡◌ {A = Judgement} (Err e) (Ok tt) → A
err_ok e p = absurd (let z : ◌≡◌ {A = ℕ} 0 1 = cc in omega arith)

-- Of two grounds one after the other, neither refuses.
pub passed : (x y : Judgement) → also x y ≡ Ok tt → (x ≡ Ok tt) × (y ≡ Ok tt)
passed (Ok u) y p = (refl, p)
passed (Err e) y p = err_ok e p

-- A ground that does not refuse does not hold, and holds nowhere.
pub when_no : (z : Bool) (g : Ground) → when z g ≡ Ok tt → z ≡ false
when_no true g p = err_ok _ p
when_no false g p = refl

pub nowhere : (g : Ground) (o : Option ℕ) → at g o ≡ Ok tt → o ≡ None
nowhere g (Some n) p = err_ok _ p
nowhere g None p = refl
