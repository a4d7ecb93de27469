use Rattle.std.proofs.Common.{◌≡◌, ◌≤◌, rules, refl, subst, sym, arith, IfSome}
use Rattle.std.proofs.iter.Yields.{fronts}
use Rattle.std.proofs.lemmas.Iterator.{YieldsList-from_slice}
use borrow.Author.Tests.{tests}
use Rattle.words.specs.Numbers.{spelled}
use Rattle.words.proofs.Folding.{spelled_within, spelled_by_turns}
use Rattle.words.proofs.numbers.spell.Goals as goal

pub returns : goal.returns
returns c =
    let l = c.args.word.now in
    let d = c.try_fold.ensures.ran in
    let each = YieldsList-from_slice l c.iter.ensures.rest in
    let value : c.try_fold.result ≡ spelled c.args.most 0 l =
    spelled_by_turns _ fronts (λ y. y.now) _ _ c.args.most (λ a x r q h. search (rules, tests)) d.0 l _ d.4.0 _ _ 0 d.2 d.3 c.try_fold.result d.1 refl each.runs d.4.1 d.5 d.4.2 d.6 in
    record { value = value; within = subst (λ r. IfSome r (λ n. n ≤ c.args.most)) (sym value) (spelled_within c.args.most 0 l (omega arith)) }
