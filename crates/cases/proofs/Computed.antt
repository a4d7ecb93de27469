-- The cases and the sample, each by computing both sides.
use Rattle.std.proofs.Common.{refl}
use Rattle.refusal.specs.Judging.{first_from}
use Rattle.pages.specs.Held.{shown, finds, named, back_byte}
use Rattle.pages.specs.Loads.{laid_to}
use Rattle.model.specs.Worlds.{any, held_by}
use Rattle.image.specs.Files.{walked}
use Rattle.launch.specs.Launches.{loads_all}
use Rattle.cases.specs.Cases.{Worked}
use Rattle.cases.specs.Samples.{sample_bytes, Halts}

pub worked : Worked
worked =
    record {
      case1 = refl;
      case2 = refl;
      case3 = λ m. refl;
      case4 = λ m. refl;
      case5 = ((refl, refl, refl), refl);
      case6 = (refl, refl, refl);
      case7 = (refl, refl, refl);
      case8 = (refl, refl, refl);
      case9 = ((refl, refl, refl), (refl, refl, refl), refl, refl, refl, refl);
      case10 = ((refl, refl, refl), (refl, refl, refl), refl, refl, refl);
      case11 = ((refl, refl, refl), (refl, refl, refl), refl, refl, refl);
    }

pub sample_halts : Halts sample_bytes
unfolding first_from shown finds named back_byte laid_to any held_by walked loads_all
sample_halts bytes = refl
