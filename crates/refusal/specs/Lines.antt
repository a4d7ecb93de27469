-- A refusal as it is printed.
use Rattle.std.specs.Prelude.{ℕ, List, ◌++◌, codes, decimal}
use Rattle.refusal.specs.declared.Refusal.{Refusal}
use Rattle.refusal.specs.Grounds.{number_of}

abbrev pub line_of : Refusal → List ℕ
line_of r = codes "refused " ++ (decimal (number_of r.ground) ++ (codes " at " ++ decimal r.place))
