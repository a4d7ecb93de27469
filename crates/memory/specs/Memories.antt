-- What a memory means: the byte at each address, and the pages that take writes.
use Rattle.std.specs.Prelude.{ℕ, ◌/◌, ◌^◌, Bool, cond, Ok, Err, Result, ◌==◌, bit_and, nat_lt}
use Rattle.refusal.specs.declared.Refusal.{Refusal}
use Rattle.refusal.specs.declared.Ground.TheVariants.{OutOfRange, NoWrites}
use Rattle.refusal.specs.Grounds.{refusal_of}

pub record Mem : Type 0 where
  pub byte : ℕ → ℕ
  pub takes : ℕ → Bool

-- The page of an address.
abbrev pub page_at : ℕ → ℕ
page_at at = at / 4096

-- The bytes with `b` at an address.
abbrev pub put : (ℕ → ℕ) → ℕ → ℕ → ℕ → ℕ
put m at b k = cond (k == at) b (m k)

-- What a write answers, and the memory after it: the byte is put where the page takes writes, and nothing else changes.
abbrev pub write_answer : Mem → ℕ → Result (Unit {0}) Refusal
write_answer m at = cond (m.takes (page_at at)) (Ok tt) (Err (refusal_of NoWrites at))

abbrev pub stored : Mem → ℕ → ℕ → Mem
stored m at b = record { byte = cond (m.takes (page_at at)) (put m.byte at b) m.byte; takes = m.takes }

-- A page or sector number below sixteen.
abbrev pub sixteenth : ℕ → Result ℕ Refusal
sixteenth n = cond (nat_lt n 16) (Ok n) (Err (refusal_of OutOfRange 0))

-- Whether a set of pages, a bit for each, has the page.
abbrev pub in_set : ℕ → ℕ → Bool
in_set mask page = bit_and (mask / 2 ^ page) 1 == 1
