use Rattle.std.proofs.Common.{◌≡◌, ℕ, ◌<◌, ◌||◌, drop}
use Rattle.memory.specs.Memories.{in_set}
use Rattle.console.specs.Pages.{among, all_pages}
use Rattle.console.proofs.setup.page_set.Given as goal

-- The pages so far, with those that are named from here on, are those named from the start.
abbrev pub invariant-loop-number : goal.invariant-loop-number
invariant-loop-number l =
    (all_pages (drop l.number-index l.numbers) ≡ all_pages l.numbers)
    × ((p : ℕ) → p < 16 → (in_set l.pages.mask p || among p (drop l.number-index l.numbers)) ≡ among p l.numbers)
