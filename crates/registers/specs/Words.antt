-- The mode as it is printed.
use Rattle.std.specs.Prelude.{ℕ, List, codes}
use Rattle.registers.specs.declared.processor.Mode.{Mode}
use Rattle.registers.specs.declared.processor.Mode.TheVariants.{Alpha, Beta}

abbrev pub word_of : Mode → List ℕ
word_of Alpha = codes "alpha"
word_of Beta = codes "beta"
