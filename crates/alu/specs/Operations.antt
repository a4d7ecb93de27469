-- What the eight operations and the three shifts make of a byte, an operand and the carry.
use Rattle.std.specs.Prelude.{Bool, false, cond, ℕ, ◌+◌, ◌-◌, ◌*◌, ◌/◌, ◌%◌, eqb, leb, ltb}
use Rattle.std.specs.Int.Bits.{bit_and, bit_or, bit_xor}
use Rattle.std.specs.Int.Count.{ones}
use Rattle.registers.specs.declared.bank.Flags.{Flags}
use Rattle.alu.specs.declared.Operation.{Operation}
use Rattle.alu.specs.declared.Operation.TheVariants.{Add, AddCarry, Subtract, SubtractBorrow, And, ExclusiveOr, Or, Compare}
use Rattle.alu.specs.declared.Shift.{Shift}
use Rattle.alu.specs.declared.Shift.TheVariants.{LeftCircular, RightCircular, RightExtended}
use Rattle.alu.specs.declared.Outcome.{Outcome}

-- An odd number of ones.
abbrev pub parity_of : ℕ → Bool
parity_of b = eqb (ones b % 2) 1

-- The flags of a result, with the given carry.
abbrev pub flags_of : Bool → ℕ → Flags
flags_of carry b = record { carry = carry; zero = eqb b 0; sign = leb 128 b; parity = parity_of b }

abbrev pub bit_of : Bool → ℕ
bit_of b = cond b 1 0

-- The sum is `t`: what fits a byte, and the carry if there is more.
abbrev pub added : ℕ → Outcome
added t = record { byte = t % 256; flags = flags_of (leb 256 t) (t % 256) }

-- `t` is taken from `a`, with a borrow if there is too little.
abbrev pub taken : ℕ → ℕ → Outcome
taken a t = record { byte = (a + 512 - t) % 256; flags = flags_of (ltb a t) ((a + 512 - t) % 256) }

-- A logical operation clears the carry.
abbrev pub logical : ℕ → Outcome
logical b = record { byte = b; flags = flags_of false b }

-- Compare has the flags of Subtract and leaves the byte.
abbrev pub result_of : Operation → ℕ → ℕ → Bool → Outcome
result_of Add a b carry = added (a + b)
result_of AddCarry a b carry = added (a + b + bit_of carry)
result_of Subtract a b carry = taken a b
result_of SubtractBorrow a b carry = taken a (b + bit_of carry)
result_of And a b carry = logical (bit_and a b)
result_of ExclusiveOr a b carry = logical (bit_xor a b)
result_of Or a b carry = logical (bit_or a b)
result_of Compare a b carry = record { byte = a; flags = (taken a b).flags }

-- The shifted byte, and the carry then: the bit that went over the end.
abbrev pub shifted_of : Shift → ℕ → Bool → ℕ × Bool
shifted_of LeftCircular a carry = (a % 128 * 2 + a / 128, leb 128 a)
shifted_of RightCircular a carry = (a / 2 + 128 * (a % 2), eqb (a % 2) 1)
shifted_of RightExtended a carry = (a / 2 + 128 * bit_of carry, eqb (a % 2) 1)
