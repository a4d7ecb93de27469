-- A figure as it is printed, and what a launch comes to.
use Rattle.std.specs.Prelude.{ℕ, List, ◌++◌, Ok, Err, codes, decimal, Result}
use Rattle.stop.specs.Stops.{number_of}
use Rattle.refusal.specs.declared.Refusal.{Refusal}
use Rattle.refusal.specs.Lines.{line_of as refusal_line}
use Rattle.launch.specs.declared.Figure.{Figure}

abbrev pub line_of : Figure → List ℕ
line_of f = codes "stop " ++ (decimal (number_of f.stop) ++ (codes " steps " ++ (decimal f.steps ++ (codes " a " ++ decimal f.a))))

-- The line of the figure, or of the refusal.
abbrev pub told_line : Result Figure Refusal → List ℕ
told_line (Ok f) = line_of f
told_line (Err r) = refusal_line r
