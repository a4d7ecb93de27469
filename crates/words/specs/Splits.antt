-- A line taken apart.
use Rattle.std.specs.Prelude.{◌≡◌, ℕ, ◌<◌, not, List, length, drop, Some, None, Option}
use Rattle.std.specs.List.{prefix_len, take_while}
use Rattle.words.specs.declared.Split.{Split}
use Rattle.words.specs.Kinds.{blank_byte}

-- A line without the blanks at its front.
abbrev pub begun : List ℕ → List ℕ
begun l = drop (prefix_len blank_byte l) l

-- The first word and the rest; no word only where no byte but blanks is left.
abbrev pub Parted : List ℕ → Option Split → Type 0
Parted l None = prefix_len (λ b. not (blank_byte b)) (begun l) ≡ 0
Parted l (Some s) =
    (s.word.now ≡ take_while (λ b. not (blank_byte b)) (begun l)) × (s.rest.now ≡ drop (prefix_len (λ b. not (blank_byte b)) (begun l)) (begun l)) × (length s.rest.now < length l)
