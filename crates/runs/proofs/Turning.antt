-- One turn of a run, by what its step answered.
use Rattle.std.proofs.Common.{◌≡◌, ℕ, suc, ◌+◌, ◌-◌, ◌<◌, ap, ◌∙◌, arith}
use Rattle.registers.specs.declared.processor.Processor.{Processor}
use Rattle.space.specs.Cells.{Cells}
use Rattle.processor.specs.Steps.{Stepped, step_of}
use Rattle.runs.specs.Runs.{on_step, run_of}

pub turn : (limit n t : ℕ) (c : Processor) (s : Cells) (y : Stepped) → n < limit → y ≡ step_of c s
    → on_step y n t (run_of (limit - (n + 1))) ≡ run_of (limit - n) n t c s
turn limit n t c s y h e =
    let next : suc (limit - (n + 1)) ≡ limit - n = omega arith in
    ap (λ x. on_step x n t (run_of (limit - (n + 1)))) e ∙ ap (λ m. run_of m n t c s) next
