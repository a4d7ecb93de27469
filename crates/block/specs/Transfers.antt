-- BT, BTR and BCV: what their elements do to a bank and to the cells.
use Rattle.std.specs.Prelude.{ℕ, zero, suc, ◌+◌, ◌*◌, ◌%◌, Bool, true, false, cond, Ok, Err, Result, ◌==◌, nat_le}
use Rattle.registers.specs.declared.bank.Bank.{Bank}
use Rattle.registers.specs.declared.bank.Pair.TheVariants.{HL, DE}
use Rattle.registers.specs.declared.bank.Register.TheVariants.{A, C}
use Rattle.registers.specs.Banks.{pair_in, with_pair, with_value, with_flags}
use Rattle.alu.specs.Operations.{flags_of}
use Rattle.space.specs.Cells.{Cells, read_of, allow_of, store_of}
use Rattle.stop.specs.declared.Fault.{Fault}
use Rattle.block.specs.declared.transfers.Transfer.{Transfer}
use Rattle.block.specs.declared.transfers.Block.{Block}
use Rattle.block.specs.declared.transfers.Block.TheVariants.{Forward, Backward, Convert}
use Rattle.block.specs.Afters.{After, after, and_then}

-- HL and DE moved on.
abbrev pub onward : ℕ → Bank → Bank
onward by k = with_pair (with_pair k HL ((pair_in k HL + by) % 65536)) DE ((pair_in k DE + by) % 65536)

-- The byte goes to DE, and then the answer is the sum of it and B, with the bank k'.
abbrev pub stored : ℕ → Bank → Cells → Bank → After (Result ℕ Fault)
stored b k s k' = and_then (allow_of s (pair_in k DE)) k s (λ _. after (Ok (b + k.b)) k' (store_of s (pair_in k DE) b))

-- An element of BT and BTR: read at HL, add A, store at DE, move both on, add B.
abbrev pub element_of : ℕ → Bank → Cells → After (Result ℕ Fault)
element_of by k s = and_then (read_of s (pair_in k HL)) k s (λ b. stored ((b + k.a) % 256) k s (onward by k))

-- A is the place in the table, and DE one further.
abbrev pub placed : ℕ → Bank → Bank
placed a k = with_pair (with_value k A a) DE ((pair_in k DE + 1) % 65536)

-- An element of BCV: read at DE, add L, read at H and that, store at DE, move DE on, add B.
abbrev pub converted_of : Bank → Cells → After (Result ℕ Fault)
converted_of k s =
    and_then (read_of s (pair_in k DE)) k s
    (λ b. and_then (read_of s (k.h * 256 + (b + k.l) % 256)) k s (λ t. stored t k s (placed ((b + k.l) % 256) k)))

abbrev pub element_by : Block → Bank → Cells → After (Result ℕ Fault)
element_by Forward k s = element_of 1 k s
element_by Backward k s = element_of 65535 k s
element_by Convert k s = converted_of k s

-- The flags at the end are those of the last addition of B.
abbrev pub flagged : ℕ → Bank → Bank
flagged sum k = with_flags k (flags_of (nat_le 256 sum) (sum % 256))

-- C counted down.
abbrev pub counted : Bank → Bank
counted k = with_value k C ((k.c + 255) % 256)

abbrev pub Moved : Type 0
Moved = After (Result Transfer Fault)

abbrev pub ended : ℕ → Bool → ℕ → Bank → Cells → Moved
ended n matched sum k s = after (Ok (record { elements = n; matched = matched })) (flagged sum k) s

-- What follows the n_th element: the end if it was stopped or matched, else `rest`, with C counted down.
abbrev pub next : Result ℕ Fault → ℕ → (ℕ → Bank → Cells → Moved) → Bank → Cells → Moved
next (Err e) n rest k s = after (Err e) k s
next (Ok sum) n rest k s = cond (sum == 256) (ended n true sum k s) (rest sum (counted k) s)

abbrev pub following : After (Result ℕ Fault) → ℕ → (ℕ → Bank → Cells → Moved) → Moved
following x n rest = next x.answer n rest x.bank x.cells

-- The elements one after the other: `more` may follow the next one, and `before` came before it.
abbrev pub block_from : Block → (more before : ℕ) → Bank → Cells → Moved
block_from x zero before k s = following (element_by x k s) (before + 1) (ended (before + 1) false)
block_from x (suc more) before k s = following (element_by x k s) (before + 1) (λ sum. block_from x more (before + 1))

-- How many may follow the first: C of 0 stands for 256 elements.
abbrev pub more_of : Bank → ℕ
more_of k = (k.c + 255) % 256

abbrev pub block_of : Block → Bank → Cells → Moved
block_of x k s = block_from x (more_of k) 0 k s
