-- A sector table: its entries, the pages that they name, and what a job sees through it.
use Rattle.std.specs.Prelude.{◌≡◌, ℕ, zero, suc, ◌+◌, ◌*◌, ◌/◌, ◌%◌, Bool, true, false, cond, not, ◌&&◌, ◌||◌, List, ◌==◌, nat_lt, slice_index}
use Rattle.memory.specs.Memories.{Mem}
use Rattle.space.specs.Cells.{Cells, Frame}

-- The entry of a sector, 0 past the fifteen.
abbrev pub entry_of : List ℕ → ℕ → ℕ
entry_of t sector = cond (nat_lt sector 15) (slice_index t sector) 0

-- Bits 0 and 1 are reserved, bit 2 allows access, bit 3 allows writing, and bits 4 to 7 give the page.
abbrev pub reserved_in : ℕ → Bool
reserved_in e = not (e % 4 == 0)

abbrev pub access_in : ℕ → Bool
access_in e = e / 4 % 2 == 1

abbrev pub writing_in : ℕ → Bool
writing_in e = e / 8 % 2 == 1

abbrev pub page_in : ℕ → ℕ
page_in e = e / 16

-- Sectors with access that name one page are one.
abbrev pub Apart : List ℕ → Type 0
Apart t =
    (i j : ℕ) → (access_in (entry_of t i) ≡ true) × (access_in (entry_of t j) ≡ true) × (page_in (entry_of t i) ≡ page_in (entry_of t j)) → i ≡ j

-- Where a job's address lies in memory.
abbrev pub physical : List ℕ → ℕ → ℕ
physical t at = page_in (entry_of t (at / 4096)) * 4096 + at % 4096

-- What the job sees at each of its addresses.
abbrev pub cells_by : List ℕ → Mem → Cells
cells_by t m at =
    record {
      access = access_in (entry_of t (at / 4096));
      takes = access_in (entry_of t (at / 4096)) && m.takes (page_in (entry_of t (at / 4096)));
      writable = access_in (entry_of t (at / 4096)) && (writing_in (entry_of t (at / 4096)) && m.takes (page_in (entry_of t (at / 4096))));
      byte = cond (access_in (entry_of t (at / 4096))) (m.byte (physical t at)) 0;
    }

-- Whether one of the first n sectors may be written and names the page.
abbrev pub writes : List ℕ → ℕ → ℕ → Bool
writes t zero page = false
writes t (suc n) page = (access_in (entry_of t n) && (writing_in (entry_of t n) && page_in (entry_of t n) == page)) || writes t n page

-- What a write through the table leaves: the lender, the table, the pages that take writes, and every byte but those of the pages that the table lets it write and that take writes.
abbrev pub frame_by : ℕ → List ℕ → Mem → Frame
frame_by lender t m =
    record { lender = lender; table = t; takes = m.takes; others = λ k. cond (writes t 15 (k / 4096) && m.takes (k / 4096)) 0 (m.byte k) }
