-- Eleven worked cases, by the meanings themselves.
use Rattle.std.specs.Prelude.{◌≡◌, ℕ, ◌-◌, ◌/◌, true, cond, List, [], ◌∷◌, replicate, Ok, Err, Result, ◌==◌, nat_le, slice_index}
use Rattle.stop.specs.declared.Fault.{Fault}
use Rattle.stop.specs.declared.Stop.TheVariants.{Faulted}
use Rattle.stop.specs.Stops.{number_of}
use Rattle.memory.specs.Memories.{Mem}
use Rattle.space.specs.Cells.{read_of, allow_of}
use Rattle.registers.specs.declared.bank.Bank.{Bank}
use Rattle.registers.specs.declared.bank.Pair.TheVariants.{HL, DE}
use Rattle.registers.specs.Banks.{pair_in}
use Rattle.registers.specs.Processors.{no_flags, no_bank, reset_at, bank_of, with_bank}
use Rattle.table.specs.Tables.{physical, cells_by}
use Rattle.runs.specs.Runs.{Over, run_of}

-- The table T: sector 0 is page 3 and may be written, sector 1 is page 5 and may not, and the rest give no access.
abbrev pub table_t : List ℕ
table_t = 60 ∷ 84 ∷ replicate 13 0

-- A memory whose page 3 has these bytes and whose other pages have zeros. Each page takes writes.
abbrev pub with_page3 : (ℕ → ℕ) → Mem
with_page3 bytes = record { byte = λ k. cond (k / 4096 == 3) (bytes (k - 12288)) 0; takes = λ p. true }

-- The stop of a load or a store that is refused; 0 where it is allowed.
abbrev pub stop_of : {X : Type 0} → Result X Fault → ℕ
stop_of (Ok x) = 0
stop_of (Err e) = number_of (Faulted e)

-- A run under T over those bytes, from address 0 and with the bank k in use.
abbrev pub run_t : (limit : ℕ) → Bank → (ℕ → ℕ) → Over
run_t limit k bytes = run_of limit 0 0 (with_bank (reset_at 0) k) (cells_by table_t (with_page3 bytes))

-- The stop, the steps and P of a run.
abbrev pub Ends : Over → (stop steps p : ℕ) → Type 0
Ends o stop steps p = (number_of o.answer.stop ≡ stop) × (o.answer.steps ≡ steps) × (o.cpu.p ≡ p)

-- HL, DE and C after a run.
abbrev pub Points : Over → (hl de c : ℕ) → Type 0
Points o hl de c = (pair_in (bank_of o.cpu) HL ≡ hl) × (pair_in (bank_of o.cpu) DE ≡ de) × ((bank_of o.cpu).c ≡ c)

abbrev pub bytes_of : List ℕ → ℕ → ℕ
bytes_of bytes k = slice_index bytes k

-- LA 5, AD 3, HALT.
abbrev pub addition : ℕ → ℕ
addition = bytes_of (0o006 ∷ 0o005 ∷ 0o004 ∷ 0o003 ∷ 0o000 ∷ [])

-- INPUT.
abbrev pub input : ℕ → ℕ
input = bytes_of (0o101 ∷ [])

-- BT at 0, and the source from 256 on.
abbrev pub transfer : List ℕ → ℕ → ℕ
transfer source k = cond (k == 0) 0o021 (cond (nat_le 256 k) (slice_index source (k - 256)) 0)

-- A bank for a block instruction: the registers that it takes, the rest zero.
abbrev pub bank_for : (a b c d e h l : ℕ) → Bank
bank_for a b c d e h l = record { a = a; b = b; c = c; d = d; e = e; h = h; l = l; x = 0; flags = no_flags }

-- HL 256, DE 512, C 3, A 1 and the given B, from 7, 255, 0.
abbrev pub transfer_with : (b : ℕ) → Over
transfer_with b = run_t 1 (bank_for 1 b 3 2 0 1 0) (transfer (7 ∷ 255 ∷ 0 ∷ []))

-- HL 256, DE 4,095, C 2, A 0 and B 0, from 9, 9.
abbrev pub transfer_across : Over
transfer_across = run_t 1 (bank_for 0 0 2 15 255 1 0) (transfer (9 ∷ 9 ∷ []))

pub record Worked : Type 0 where
  -- address 5 is 12,293 in memory, and 4,100 is 20,484
  pub case1 : physical table_t 5 ≡ 12293
  pub case2 : physical table_t 4100 ≡ 20484
  -- over every memory: a store to 4,100 is stop 7, and a load from 8,192 is stop 6
  pub case3 : (m : Mem) → stop_of (allow_of (cells_by table_t m) 4100) ≡ 7
  pub case4 : (m : Mem) → stop_of (read_of (cells_by table_t m) 8192) ≡ 6
  -- the addition with limit 10 is stop 2 after 3 steps, with 8 in A and P at 5
  pub case5 : Ends (run_t 10 no_bank addition) 2 3 5 × ((bank_of (run_t 10 no_bank addition).cpu).a ≡ 8)
  -- with limit 2 it is stop 1 with P at 4, and with limit 0 stop 1 after no step
  pub case6 : Ends (run_t 2 no_bank addition) 1 2 4
  pub case7 : Ends (run_t 0 no_bank addition) 1 0 0
  -- INPUT is stop 5 after no step, with P at 0
  pub case8 : Ends (run_t 10 no_bank input) 5 0 0
  -- a transfer of three bytes, each with 1 added
  pub case9 : Ends (transfer_with 0) 1 1 1
      × Points (transfer_with 0) 259 515 0
      × (((transfer_with 0).cells 512).byte ≡ 8)
      × (((transfer_with 0).cells 513).byte ≡ 0)
      × (((transfer_with 0).cells 514).byte ≡ 1)
      × ((transfer_with 0).answer.time ≡ 14400)
  -- the same ends at the first byte stored, since 8 and 248 make 256
  pub case10 : Ends (transfer_with 248) 1 1 1
      × Points (transfer_with 248) 257 513 3
      × (((transfer_with 248).cells 512).byte ≡ 8)
      × (((transfer_with 248).cells 513).byte ≡ 0)
      × ((transfer_with 248).answer.time ≡ 7400)
  -- a transfer into the sector that may not be written is stop 7, and the byte before it is stored
  pub case11 : Ends transfer_across 7 0 0
      × Points transfer_across 257 4096 1
      × ((transfer_across.cells 4095).byte ≡ 9)
      × ((transfer_across.cells 4096).byte ≡ 0)
      × (transfer_across.answer.time ≡ 0)
