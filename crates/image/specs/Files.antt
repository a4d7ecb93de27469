-- What an image file says, and when it is refused.
use Rattle.std.specs.Prelude.{ℕ, zero, suc, ◌+◌, ◌*◌, Bool, true, false, not, ◌&&◌, List, [], ◌∷◌, length, take, drop, None, Ok, Err, Option, Result, ◌==◌, nat_le, nat_lt, slice_index}
use Rattle.refusal.specs.declared.Refusal.{Refusal}
use Rattle.refusal.specs.declared.Ground.TheVariants.{WrongLength, NoImage, Incomplete}
use Rattle.refusal.specs.Judging.{Judgement, at, first, picked}

-- A block, with the offset of its first byte in the file.
pub record BlockOf : Type 0 where
  pub offset : ℕ
  pub address : ℕ
  pub bytes : List ℕ

pub record Parsed : Type 0 where
  pub table : List ℕ
  pub start : ℕ
  pub blocks : List BlockOf

-- The 16-bit number at an offset, high byte first.
abbrev pub word : List ℕ → ℕ → ℕ
word file offset = slice_index file offset * 256 + slice_index file (offset + 1)

-- The letters D, P, J and the version 1.
abbrev pub begins : List ℕ → Bool
begins file = nat_le 5 (length file)
    && (slice_index file 0 == 68 && (slice_index file 1 == 80 && (slice_index file 2 == 74 && (slice_index file 3 == 0 && slice_index file 4 == 1))))

-- The block whose header stands at an offset: address, length, and that many bytes.
abbrev pub block_at : List ℕ → ℕ → BlockOf
block_at file offset = record { offset = offset; address = word file offset; bytes = take (word file (offset + 2)) (drop (offset + 4) file) }

-- Where it ends, and whether the file has all of it.
abbrev pub past : List ℕ → ℕ → ℕ
past file offset = offset + 4 + word file (offset + 2)

abbrev pub complete : List ℕ → ℕ → Bool
complete file offset = nat_le (past file offset) (length file)

-- The complete blocks, one behind the other, and the offset at which no further one stands.
pub record Walk : Type 0 where
  pub blocks : List BlockOf
  pub end : ℕ

abbrev pub before : BlockOf → Walk → Walk
before block walk = record { blocks = block ∷ walk.blocks; end = walk.end }

-- Each takes four bytes at least, so as much fuel as the file has bytes suffices.
unfoldable pub walked : (fuel : ℕ) → List ℕ → ℕ → Walk
walked zero file offset = record { blocks = []; end = offset }
walked (suc fuel) file offset = elim (complete file offset) [
  | true ↦ before (block_at file offset) (walked fuel file (past file offset))
  | false ↦ record { blocks = []; end = offset }
]

abbrev pub blocks_from : List ℕ → ℕ → List BlockOf
blocks_from file offset = (walked (length file) file offset).blocks

abbrev pub blocks_end : List ℕ → ℕ → ℕ
blocks_end file offset = (walked (length file) file offset).end

-- The first offset of what is incomplete: the table, the starting address, or a block.
abbrev pub cut_at : List ℕ → Option ℕ
cut_at file =
    picked (nat_lt (length file) 20) 5
    (picked (nat_lt (length file) 22) 20
    (picked (nat_lt (blocks_end file 22) (length file)) (blocks_end file 22) None))

-- The grounds in their order.
abbrev pub judged_file : List ℕ → Judgement
judged_file file = first
    (at WrongLength (picked (nat_lt 16384 (length file)) 16384 None)
    ∷ at NoImage (picked (not (begins file)) 0 None)
    ∷ at Incomplete (cut_at file)
    ∷ [])

-- The parts of a file that is not refused.
abbrev pub parts_of : List ℕ → Parsed
parts_of file = record { table = take 15 (drop 5 file); start = word file 20; blocks = blocks_from file 22 }

abbrev pub accepting : Judgement → Parsed → Result Parsed Refusal
accepting (Ok u) p = Ok p
accepting (Err r) p = Err r

abbrev pub image_of : List ℕ → Result Parsed Refusal
image_of file = accepting (judged_file file) (parts_of file)
