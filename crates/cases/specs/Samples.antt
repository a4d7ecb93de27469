-- A small image: its bytes, and what it comes to.
use Rattle.std.specs.Prelude.{◌≡◌, ℕ, true, List, [], ◌∷◌, ◌++◌, Ok}
use Rattle.stop.specs.declared.Trap.TheVariants.{Halt}
use Rattle.stop.specs.declared.Stop.TheVariants.{Trapped}
use Rattle.memory.specs.Memories.{Mem}
use Rattle.launch.specs.Launches.{launch_of}
use Rattle.cases.specs.Cases.{table_t}

-- The letters DPJ and version 1; the table T; start at 0; five bytes at address 0: LA 5, AD 3, HALT.
abbrev pub sample_bytes : List ℕ
sample_bytes = (68 ∷ 80 ∷ 74 ∷ 0 ∷ 1 ∷ []) ++ (table_t ++ (0 ∷ 0 ∷ 0 ∷ 0 ∷ 0 ∷ 5 ∷ 0o006 ∷ 0o005 ∷ 0o004 ∷ 0o003 ∷ 0o000 ∷ []))

-- A memory with any bytes at all, each page of which takes writes.
abbrev pub open_mem : (ℕ → ℕ) → Mem
open_mem bytes = record { byte = bytes; takes = λ p. true }

-- Whatever the memory holds before, the image halts after three steps with 8 in A.
abbrev pub Halts : List ℕ → Type 0
Halts file = (bytes : ℕ → ℕ) → (launch_of file (open_mem bytes)).answer ≡ Ok (record { stop = Trapped Halt; steps = 3; a = 8 })
