use mathlib.Core.Path.{◌≡◌}
use Prim.Native.Nat.{ℕ, ◌+◌, ◌*◌, ◌/◌, ◌%◌, ◌<◌}
use native.Mathlib.Omega.{arith}
use lib.Bits.{bit_or}
use borrow.Author.Rules.{rules}
use Rattle.registers.proofs.Table.{agree}
use Rattle.alu.proofs.shifted.Goals as goal

left_turn : (k : ℕ) → k < 256 → bit_or (k * 2 % 256) (k / 128) ≡ k % 128 * 2 + k / 128
left_turn = agree (λ k. bit_or (k * 2 % 256) (k / 128)) (λ k. k % 128 * 2 + k / 128) 256 tt

right_turn : (k : ℕ) → k < 256 → bit_or (k / 2) (k * 128 % 256) ≡ k / 2 + 128 * (k % 2)
right_turn = agree (λ k. bit_or (k / 2) (k * 128 % 256)) (λ k. k / 2 + 128 * (k % 2)) 256 tt

pub returns-in-LeftCircular : goal.returns-in-LeftCircular
returns-in-LeftCircular c = let e = left_turn c.args.a (omega arith) in search rules

pub returns-in-RightCircular : goal.returns-in-RightCircular
returns-in-RightCircular c = let e = right_turn c.args.a (omega arith) in search rules
