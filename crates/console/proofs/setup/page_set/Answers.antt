use Rattle.std.proofs.Common.{◌+◌, ◌&&◌, ◌||◌, nat_eq, get_or, drop, Err, Result, sym, ap, ◌∙◌, subst}
use Rattle.std.proofs.Math.Bool.{or-false, or_assoc, or_comm}
use Rattle.std.proofs.Math.ListN.{drop_of_length-le}
use Rattle.std.proofs.lemmas.Result.{err_from_is_err_and}
use Rattle.refusal.specs.declared.Refusal.{Refusal}
use Rattle.memory.specs.declared.sets.PageSet.{PageSet}
use Rattle.memory.specs.Memories.{in_set}
use Rattle.console.specs.Pages.{among, all_pages, Gathered}
use Rattle.console.proofs.Gathering.{among_from, all_from, page_made, page_refused}
use Rattle.console.proofs.setup.page_set.Goals as goal

pub loop-number-preserved : goal.loop-number-preserved
loop-number-preserved c =
    let l = c.args.numbers.now in
    let i = c.loop-number.number-index in
    let n = get_or l i 0 in
    let m = c.loop-number.pages.mask in
    let made = page_made n c.in_ok-try_from.field-0.number c.in_ok-try_from.ensures in
    let inv = c.loop-number.invariant in (
      sym (all_from l i c.loop-number-test.true ∙ ap (λ z. z && all_pages (drop (i + 1) l)) made.0) ∙ inv.0,
      λ p h.
          let rest = among p (drop (i + 1) l) in
          ap (λ z. z || rest) (c.with-pages.ensures p h ∙ ap (λ k. nat_eq p k || in_set m p) made.1 ∙ or_comm (nat_eq p n) (in_set m p))
          ∙ or_assoc (in_set m p) (nat_eq p n) rest
          ∙ ap (λ z. in_set m p || z) (sym (among_from p l i c.loop-number-test.true))
          ∙ inv.1 p h,
    )

pub returns-in_err-try_from : goal.returns-in_err-try_from
returns-in_err-try_from c =
    let l = c.args.numbers.now in
    let i = c.loop-number.number-index in
    let none = page_refused (get_or l i 0) c.in_err-try_from.field-0.0 c.in_err-try_from.ensures in
    let p = err_from_is_err_and c.from_residual.result c.from_residual.ensures.1 in
    subst (λ (r : Result PageSet Refusal). Gathered l r) (sym (p.1 ∙ ap (λ (e : Refusal). Err e) p.2)) (
      sym c.loop-number.invariant.0 ∙ all_from l i c.loop-number-test.true ∙ ap (λ z. z && all_pages (drop (i + 1) l)) none.0,
      none.1,
    )

pub returns : goal.returns
unfolding among all_pages
returns c =
    let l = c.args.numbers.now in
    let m = c.loop-number.pages.mask in
    let none = drop_of_length-le l c.loop-number-test.false in
    let inv = c.loop-number.invariant in (
      sym inv.0 ∙ ap all_pages none,
      λ p h. sym (or-false (in_set m p)) ∙ ap (λ z. in_set m p || among p z) (sym none) ∙ inv.1 p h,
    )
