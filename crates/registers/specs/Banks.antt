-- The eight registers of a bank by name, its four pairs, the high byte first, and its flags.
use Rattle.std.specs.Prelude.{ℕ, ◌+◌, ◌*◌, ◌/◌, ◌%◌, Bool, true, false}
use Rattle.registers.specs.declared.bank.Register.{Register}
use Rattle.registers.specs.declared.bank.Register.TheVariants.{A, B, C, D, E, H, L, X}
use Rattle.registers.specs.declared.bank.Pair.{Pair}
use Rattle.registers.specs.declared.bank.Pair.TheVariants.{XA, BC, DE, HL}
use Rattle.registers.specs.declared.bank.Flag.{Flag}
use Rattle.registers.specs.declared.bank.Flag.TheVariants.{Carry, Zero, Sign, Parity}
use Rattle.registers.specs.declared.bank.Condition.{Condition}
use Rattle.registers.specs.declared.bank.Flags.{Flags}
use Rattle.registers.specs.declared.bank.Bank.{Bank}

abbrev pub value_in : Bank → Register → ℕ
value_in k A = k.a
value_in k B = k.b
value_in k C = k.c
value_in k D = k.d
value_in k E = k.e
value_in k H = k.h
value_in k L = k.l
value_in k X = k.x

abbrev pub with_value : Bank → Register → ℕ → Bank
with_value k A v = record { a = v; b = k.b; c = k.c; d = k.d; e = k.e; h = k.h; l = k.l; x = k.x; flags = k.flags }
with_value k B v = record { a = k.a; b = v; c = k.c; d = k.d; e = k.e; h = k.h; l = k.l; x = k.x; flags = k.flags }
with_value k C v = record { a = k.a; b = k.b; c = v; d = k.d; e = k.e; h = k.h; l = k.l; x = k.x; flags = k.flags }
with_value k D v = record { a = k.a; b = k.b; c = k.c; d = v; e = k.e; h = k.h; l = k.l; x = k.x; flags = k.flags }
with_value k E v = record { a = k.a; b = k.b; c = k.c; d = k.d; e = v; h = k.h; l = k.l; x = k.x; flags = k.flags }
with_value k H v = record { a = k.a; b = k.b; c = k.c; d = k.d; e = k.e; h = v; l = k.l; x = k.x; flags = k.flags }
with_value k L v = record { a = k.a; b = k.b; c = k.c; d = k.d; e = k.e; h = k.h; l = v; x = k.x; flags = k.flags }
with_value k X v = record { a = k.a; b = k.b; c = k.c; d = k.d; e = k.e; h = k.h; l = k.l; x = v; flags = k.flags }

abbrev pub pair_in : Bank → Pair → ℕ
pair_in k XA = k.x * 256 + k.a
pair_in k BC = k.b * 256 + k.c
pair_in k DE = k.d * 256 + k.e
pair_in k HL = k.h * 256 + k.l

abbrev pub with_pair : Bank → Pair → ℕ → Bank
with_pair k XA v = record { a = v % 256; b = k.b; c = k.c; d = k.d; e = k.e; h = k.h; l = k.l; x = v / 256; flags = k.flags }
with_pair k BC v = record { a = k.a; b = v / 256; c = v % 256; d = k.d; e = k.e; h = k.h; l = k.l; x = k.x; flags = k.flags }
with_pair k DE v = record { a = k.a; b = k.b; c = k.c; d = v / 256; e = v % 256; h = k.h; l = k.l; x = k.x; flags = k.flags }
with_pair k HL v = record { a = k.a; b = k.b; c = k.c; d = k.d; e = k.e; h = v / 256; l = v % 256; x = k.x; flags = k.flags }

abbrev pub flag_in : Flags → Flag → Bool
flag_in f Carry = f.carry
flag_in f Zero = f.zero
flag_in f Sign = f.sign
flag_in f Parity = f.parity

abbrev pub with_flags : Bank → Flags → Bank
with_flags k f = record { a = k.a; b = k.b; c = k.c; d = k.d; e = k.e; h = k.h; l = k.l; x = k.x; flags = f }

abbrev pub with_carry : Bank → Bool → Bank
with_carry k b = with_flags k (record { carry = b; zero = k.flags.zero; sign = k.flags.sign; parity = k.flags.parity })

-- A condition holds if the flag is as it asks.
abbrev pub as_wanted : Bool → Bool → Bool
as_wanted true true = true
as_wanted true false = false
as_wanted false true = false
as_wanted false false = true

abbrev pub holds_of : Condition → Flags → Bool
holds_of k f = as_wanted (flag_in f k.flag) k.set
