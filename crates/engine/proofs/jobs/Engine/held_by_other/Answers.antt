use Rattle.std.proofs.Common.{not, ◌&&◌, ◌==◌, rules, tests}
use Rattle.refusal.proofs.Searches.{any_below}
use Rattle.pages.specs.Held.{holds}
use Rattle.model.specs.Worlds.{jobs_of, held_by}
use Rattle.model.proofs.Tables.{held_none, held_more}
use Rattle.engine.proofs.jobs.Engine.held_by_other.Goals as goal

pub returns : goal.returns
returns c =
    let jobs = jobs_of c.args.self.now.jobs in
    let j = c.args.job in
    let p = c.args.page.number in
    any_below (λ k. not (k == j) && holds (jobs k).table p) (λ n. held_by n jobs j p) (held_none jobs j p) (λ n. held_more n jobs j p) 8 _ _ _ c.any.ensures.ran
    (λ x b q k. search (rules, tests))
