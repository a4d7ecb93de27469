-- An accepted file has nothing but its parts: the blocks lie one behind the other from offset 22 to its end.
use Rattle.std.specs.Prelude.{◌≡◌, ℕ, ◌+◌, List, [], ◌∷◌, length, take, drop, Ok, Err, Result}
use Rattle.refusal.specs.declared.Refusal.{Refusal}
use Rattle.image.specs.Files.{BlockOf, Parsed, image_of}

-- Each block begins where the one before it ends; its bytes follow four bytes of header, and the last ends with the file.
unfoldable pub Tiles : List ℕ → ℕ → List BlockOf → Type 0
Tiles file offset [] = offset ≡ length file
Tiles file offset (b ∷ bs) =
    (b.offset ≡ offset)
    × (b.bytes ≡ take (length b.bytes) (drop (offset + 4) file))
    × Tiles file (offset + 4 + length b.bytes) bs

abbrev pub Tiled : Result Parsed Refusal → List ℕ → Type 0
Tiled (Ok p) file = Tiles file 22 p.blocks
Tiled (Err r) file = Unit {0}

-- So many bytes of a file suffice to judge it: what comes after them changes nothing.
abbrev pub Suffices : ℕ → Type 0
Suffices n = (file : List ℕ) → image_of (take n file) ≡ image_of file
