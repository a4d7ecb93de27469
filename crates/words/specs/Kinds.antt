-- Bytes of a line.
use Rattle.std.specs.Prelude.{ℕ, Bool, ◌&&◌, ◌||◌, ◌==◌, nat_le}

-- A space, a tab, or the end of a line.
abbrev pub blank_byte : ℕ → Bool
blank_byte b = b == 32 || (b == 9 || (b == 13 || b == 10))

-- The sign #.
abbrev pub comment_byte : ℕ → Bool
comment_byte b = b == 35

abbrev pub digit_byte : ℕ → Bool
digit_byte b = nat_le 48 b && nat_le b 57
