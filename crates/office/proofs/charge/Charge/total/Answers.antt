use Rattle.std.proofs.Common.{rules, ◌≡◌, ℕ, ◌+◌, ◌-◌, ◌^◌, min, List, ◌∷◌, [], ◌++◌, refl, arith}
use Rattle.std.proofs.lemmas.Fn.{fold_over, fronts}
use Rattle.std.proofs.lemmas.Iterator.{YieldsList-from_slice}
use Rattle.std.proofs.lemmas.List.Sums.{sum_by_push}
use Rattle.office.specs.declared.charge.Charge.{Charge}
use Rattle.office.specs.Charges.{sum_of}
use Rattle.office.proofs.charge.Charge.total.Goals as goal

-- A charge more.
one_more : (cs : List Charge) (c : Charge) (a b : ℕ) → a ≡ min (sum_of cs) (2 ^ 64 - 1) → b ≡ min (a + c.cents) (2 ^ 64 - 1) → b ≡ min (sum_of (cs ++ c ∷ [])) (2 ^ 64 - 1)
one_more cs c a b was now = omega (arith, was, now, sum_by_push (λ (x : Charge). x.cents) cs c)

pub returns : goal.returns
returns c =
    fold_over fronts (λ x. x.now) _ (λ cs s. s ≡ min (sum_of cs) (2 ^ 64 - 1)) _ (λ cs a x b f' was k. (one_more cs x.now a b was (search rules), search rules)) c.iter.result c.args.charges.now _ _
    (YieldsList-from_slice c.args.charges.now c.iter.ensures.rest).runs refl c.fold-cents.ensures.ran
