-- What a layer means as a memory, by the memory below it.
use Rattle.std.specs.Prelude.{cond, not, ◌&&◌, List, ℕ, ◌%◌, eqb, length, get_or}
use Rattle.memory.specs.Memories.{Mem, page_at, in_set, stored}

-- The byte that a ROM shows at an address of its page: its own, or 0 where it has not 4,096 bytes.
abbrev pub rom_byte : List ℕ → ℕ → ℕ
rom_byte bytes k = cond (eqb (length bytes) 4096) (get_or bytes (k % 4096) 0) 0

-- One page shows the ROM and takes no writes; the others are those below.
abbrev pub rom_mem : ℕ → List ℕ → Mem → Mem
rom_mem page bytes below = record {
  byte = λ k. cond (eqb (page_at k) page) (rom_byte bytes k) (below.byte k);
  takes = λ p. not (eqb p page) && below.takes p;
}

-- The memory below after a write to the layer: as it was where the page is the ROM's.
abbrev pub rom_below : ℕ → Mem → ℕ → ℕ → Mem
rom_below page below at b = cond (eqb (page_at at) page) below (stored below at b)

-- The bytes below; the pages of the set take no writes.
abbrev pub seal_mem : ℕ → Mem → Mem
seal_mem pages below = record {
  byte = below.byte;
  takes = λ p. not (in_set pages p) && below.takes p;
}
