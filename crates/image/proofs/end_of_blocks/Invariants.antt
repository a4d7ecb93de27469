use Rattle.std.proofs.Common.{◌≡◌, ◌-◌, ◌≤◌, length}
use Rattle.image.specs.Files.{blocks_end}
use Rattle.image.proofs.end_of_blocks.Given as goal

abbrev pub invariant-loop-block : goal.invariant-loop-block
invariant-loop-block l = (l.at ≤ length l.file) × (blocks_end l.file l.at ≡ blocks_end l.file 22)

abbrev pub decreases-loop-block : goal.decreases-loop-block
decreases-loop-block l = length l.file - l.at
