-- The number of a page or a sector that was made, or the refusal.
use Rattle.std.specs.Prelude.{ℕ, Ok, Err, Result}
use Rattle.refusal.specs.declared.Refusal.{Refusal}
use Rattle.memory.specs.declared.page.Sixteenth.{Sixteenth}

abbrev pub number_made : {space : ℕ} → Result (Sixteenth space) Refusal → Result ℕ Refusal
number_made (Ok n) = Ok n.number
number_made (Err r) = Err r
