-- What the octal digits of an op code, and the selecting byte before it, name.
use Rattle.std.specs.Prelude.{ℕ, ◌%◌, cond, nat_le, [], ◌∷◌, Some, None, Option, ◌==◌, slice_index_or}
use Rattle.registers.specs.declared.bank.Register.{Register}
use Rattle.registers.specs.declared.bank.Register.TheVariants as r
use Rattle.registers.specs.declared.bank.Pair.{Pair}
use Rattle.registers.specs.declared.bank.Pair.TheVariants.{XA, BC, DE, HL}
use Rattle.alu.specs.declared.Operation.{Operation}
use Rattle.alu.specs.declared.Operation.TheVariants.{Add, AddCarry, Subtract, SubtractBorrow, And, ExclusiveOr, Or, Compare}
use Rattle.registers.specs.declared.bank.Condition.{Condition}
use Rattle.registers.specs.declared.bank.Flag.{Flag}
use Rattle.registers.specs.declared.bank.Flag.TheVariants.{Carry, Zero, Sign, Parity}
use Rattle.decode.specs.declared.instruction.Selector.{Selector}
use Rattle.decode.specs.declared.instruction.Selector.TheVariants as s
use Rattle.decode.specs.declared.instruction.Source.{Source}
use Rattle.decode.specs.declared.instruction.Source.TheVariants as from

abbrev pub register_of : ℕ → Register
register_of d = slice_index_or (r.A ∷ r.B ∷ r.C ∷ r.D ∷ r.E ∷ r.H ∷ r.L ∷ r.X ∷ []) d r.X

abbrev pub flag_of : ℕ → Flag
flag_of d = slice_index_or (Carry ∷ Zero ∷ Sign ∷ Parity ∷ []) d Parity

-- Digits 0 to 3 ask for a clear flag, 4 to 7 for one that is set.
abbrev pub condition_of : ℕ → Condition
condition_of d = record { flag = flag_of (d % 4); set = nat_le 4 d }

abbrev pub operation_of : ℕ → Operation
operation_of d = slice_index_or (Add ∷ AddCarry ∷ Subtract ∷ SubtractBorrow ∷ And ∷ ExclusiveOr ∷ Or ∷ Compare ∷ []) d Compare

abbrev pub source_of : ℕ → Source
source_of d = slice_index_or (from.Register r.A ∷ from.Register r.B ∷ from.Register r.C ∷ from.Register r.D ∷ from.Register r.E ∷ from.Register r.H ∷ from.Register r.L ∷ from.Memory ∷ []) d from.Memory

-- The seven selecting bytes.
abbrev pub selector_of : ℕ → Option Selector
selector_of byte =
    cond (byte == 0o111) (Some s.B)
    (cond (byte == 0o062) (Some s.C)
    (cond (byte == 0o113) (Some s.D)
    (cond (byte == 0o174) (Some s.E)
    (cond (byte == 0o115) (Some s.H) (cond (byte == 0o176) (Some s.L) (cond (byte == 0o022) (Some s.X) None))))))

-- The register that an instruction implies: A without a selecting byte.
abbrev pub implied_by : Option Selector → Register
implied_by None = r.A
implied_by (Some s.B) = r.B
implied_by (Some s.C) = r.C
implied_by (Some s.D) = r.D
implied_by (Some s.E) = r.E
implied_by (Some s.H) = r.H
implied_by (Some s.L) = r.L
implied_by (Some s.X) = r.X

-- The pair that an instruction implies: HL without a selecting byte.
abbrev pub pair_by : Option Selector → Option Pair
pair_by None = Some HL
pair_by (Some s.B) = None
pair_by (Some s.C) = Some BC
pair_by (Some s.D) = None
pair_by (Some s.E) = Some DE
pair_by (Some s.H) = None
pair_by (Some s.L) = None
pair_by (Some s.X) = Some XA
