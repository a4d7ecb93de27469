-- What the reader's values stand for.
use Rattle.std.specs.Prelude.{◌≡◌, ℕ, ◌+◌, ◌≤◌, List, [], ◌∷◌, length, Some, None, Ok, Err, Option, Result}
use Rattle.refusal.specs.declared.Refusal.{Refusal}
use Rattle.image.specs.declared.Block.{Block}
use Rattle.image.specs.declared.Blocks.{Blocks}
use Rattle.image.specs.declared.Image.{Image}
use Rattle.image.specs.Files.{BlockOf, Parsed, blocks_from, blocks_end}

abbrev pub block_of : Block → BlockOf
block_of b = record { offset = b.offset; address = b.address; bytes = b.bytes.now }

-- A block at an offset of a file, and the others from behind it on.
abbrev pub Heads : BlockOf → List ℕ → ℕ → Type 0
Heads b file offset =
    let behind = offset + (4 + length b.bytes) in
    (behind ≤ length file)
    × (blocks_from file offset ≡ b ∷ blocks_from file behind)
    × (blocks_end file offset ≡ blocks_end file behind)

-- What stands at an offset: a block, or none, and the blocks end.
abbrev pub Stands : Option Block → List ℕ → ℕ → Type 0
Stands (Some b) file offset = Heads (block_of b) file offset
Stands None file offset = (blocks_from file offset ≡ []) × (blocks_end file offset ≡ offset)

-- The blocks that are still to be handed out.
abbrev pub left : Blocks → List BlockOf
left b = blocks_from b.file.now b.offset

abbrev pub image_blocks : Image → List BlockOf
image_blocks image = blocks_from image.file.now 22

abbrev pub parsed : Result Image Refusal → Result Parsed Refusal
parsed (Ok image) = Ok (record { table = image.table; start = image.start; blocks = image_blocks image })
parsed (Err r) = Err r

-- One visit: it hands out the first of the blocks before it, and the rest is left; or there was none.
abbrev pub Visits : Option Block → List BlockOf → List BlockOf → Type 0
Visits (Some b) whole rest = whole ≡ block_of b ∷ rest
Visits None whole rest = (whole ≡ []) × (rest ≡ [])
