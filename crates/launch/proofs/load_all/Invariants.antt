use Rattle.std.proofs.Common.{◌≡◌}
use Rattle.image.specs.Parts.{left}
use Rattle.model.specs.Worlds.{world_of}
use Rattle.launch.specs.Launches.{loads_all}
use Rattle.launch.proofs.load_all.Given as goal

-- What is left to load from here is what was to load from the start.
abbrev pub invariant-loop-block : goal.invariant-loop-block
invariant-loop-block g l =
    loads_all (left l.block-iterator) (world_of l.engine.jobs (g.M.Memory.mem l.memory))
    ≡ loads_all (left l.fn.blocks) (world_of l.engine.jobs (g.M.Memory.mem l.initial.memory))
