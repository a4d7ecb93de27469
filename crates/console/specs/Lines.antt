-- A run and a block as they are printed.
use Rattle.std.specs.Prelude.{ℕ, List, ◌++◌, [], Some, None, Option, codes, decimal}
use Rattle.stop.specs.Stops.{number_of}
use Rattle.console.specs.declared.answers.Finished.{Finished}
use Rattle.console.specs.declared.answers.Placed.{Placed}

-- The receipt of the system call that the job waits for, if it waits for one.
abbrev pub receipt_part : ℕ → Option ℕ → List ℕ
receipt_part job (Some number) = codes " receipt " ++ (decimal job ++ (codes " " ++ decimal number))
receipt_part job None = []

abbrev pub run_line : Finished → List ℕ
run_line f =
    codes "stop " ++ (decimal (number_of f.run.stop) ++ (codes " steps " ++ (decimal f.run.steps ++ (codes " time " ++ (decimal f.run.time ++ receipt_part f.job f.owed)))))

-- Its offset in the file, its address and its length.
abbrev pub block_line : Placed → List ℕ
block_line p = decimal p.offset ++ (codes " " ++ (decimal p.at ++ (codes " " ++ decimal p.length)))
