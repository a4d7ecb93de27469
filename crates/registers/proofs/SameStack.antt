-- Two stacks with the same entries and the same top are the same.
use Rattle.std.proofs.Common.{◌≡◌, ◌<◌}
use mathlib.Core.HLevel.{is_prop→PathP}
use native.Mathlib.Bridge.{le_prop}
use Rattle.registers.specs.declared.stack.Stack.{Stack}

pub same_stack : (s t : Stack) → s.entries ≡ t.entries → s.top ≡ t.top → s ≡ t
same_stack s t p q =
    λ i. record { entries = p i; top = q i; small = is_prop→PathP (λ k. q k < 16) (λ k. le_prop) s.small t.small i }
