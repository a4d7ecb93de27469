use Rattle.std.proofs.Common.{◌&&◌, ◌==◌, rules, tests}
use Rattle.refusal.proofs.Searches.{any_below}
use Rattle.table.specs.Tables.{entry_of, access_in}
use Rattle.pages.specs.Held.{named, page_of}
use Rattle.pages.proofs.Clears.{named_none, named_more}
use Rattle.pages.proofs.entries.names_page.Goals as goal

pub returns : goal.returns
returns c =
    let t = c.args.table.now in
    let p = c.args.page.number in
    any_below (λ s. access_in (entry_of t s) && page_of t s == p) (λ n. named n t p) (named_none t p) (λ n. named_more n t p) c.args.below _ _ _ c.any.ensures.ran
    (λ x b q k. search (rules, tests))
