-- The pages that a job holds, and how its space is written back to memory.
use Rattle.std.specs.Prelude.{ℕ, zero, suc, ◌+◌, ◌*◌, ◌/◌, ◌%◌, Bool, true, false, cond, ◌&&◌, List, ◌==◌, nat_lt}
use Rattle.memory.specs.Memories.{Mem}
use Rattle.space.specs.Cells.{Cell, Cells}
use Rattle.table.specs.Tables.{entry_of, access_in, page_in, cells_by}

abbrev pub Table : Type 0
Table = List ℕ

-- The page of a sector.
abbrev pub page_of : Table → ℕ → ℕ
page_of t i = page_in (entry_of t i)

-- What a table shows of a memory.
unfoldable pub shown : Table → Mem → Cells
shown t m a = cells_by t m a

abbrev pub bytes_of : Cells → ℕ → ℕ
bytes_of s a = (s a).byte

pub data Where : Type 0 where
  nowhere : Where
  sector : ℕ → Where

-- The sector below `n` that has access to the page.
unfoldable pub finds : Table → ℕ → ℕ → Where
finds t zero p = nowhere
finds t (suc n) p = cond (access_in (entry_of t n) && page_of t n == p) (sector n) (finds t n p)

abbrev pub is_there : Where → Bool
is_there nowhere = false
is_there (sector i) = true

-- Whether a sector below `n` has access to the page, and whether any has: a job holds the pages that its entries with access name.
unfoldable pub named : ℕ → Table → ℕ → Bool
named n t p = is_there (finds t n p)

abbrev pub holds : Table → ℕ → Bool
holds t p = named 15 t p

-- The byte of a page, from the sector that has access to it.
abbrev pub pick : Where → (ℕ → ℕ) → ℕ → ℕ → ℕ
pick nowhere bs off b = b
pick (sector i) bs off b = bs (i * 4096 + off)

-- The memory once the job's addresses hold `bs`: the bytes of the pages that it holds and that take writes are those, and every other byte is as it was.
unfoldable pub back_byte : Table → (ℕ → ℕ) → Mem → ℕ → ℕ
back_byte t bs m x = cond (m.takes (x / 4096)) (pick (finds t 15 (x / 4096)) bs (x % 4096) (m.byte x)) (m.byte x)

abbrev pub back : Table → (ℕ → ℕ) → Mem → Mem
back t bs m = record { byte = back_byte t bs m; takes = m.takes }

-- A space with the bytes `bs` where its pages take writes.
abbrev pub with_byte : Cell → Bool → ℕ → Cell
with_byte c z b = record { access = c.access; takes = c.takes; writable = c.writable; byte = cond z b c.byte }

abbrev pub clip : Cells → (ℕ → ℕ) → Cells
clip s bs a = with_byte (s a) (s a).takes (bs a)

-- The bytes with 0 in the pages that take writes and have a sector below `n`, and with 0 in the first `n` bytes of a page.
unfoldable pub zeroed : ℕ → Table → Mem → ℕ → ℕ
zeroed n t m x = cond (m.takes (x / 4096) && named n t (x / 4096)) 0 (m.byte x)

unfoldable pub zeroed_page : ℕ → ℕ → (ℕ → ℕ) → ℕ → ℕ
zeroed_page p n m x = cond (x / 4096 == p && nat_lt (x % 4096) n) 0 (m x)
