-- Decimal numbers.
use Rattle.std.specs.Prelude.{ℕ, ◌+◌, ◌-◌, ◌*◌, cond, ◌&&◌, List, [], ◌∷◌, Some, None, Option, nat_le}
use Rattle.words.specs.Kinds.{digit_byte}

-- The number with one digit more at its end.
abbrev pub longer : ℕ → ℕ → ℕ
longer v b = v * 10 + (b - 48)

-- That number, if `b` is a digit and the number at most `most`.
abbrev pub lengthened : ℕ → ℕ → ℕ → Option ℕ
lengthened most v b = cond (digit_byte b && nat_le (longer v b) most) (Some (longer v b)) None

-- The number that digits spell behind those of `v`, if they are digits all and it is at most `most`.
unfoldable pub spelled : ℕ → ℕ → List ℕ → Option ℕ
spelled most v [] = Some v
spelled most v (b ∷ bs) = cond (digit_byte b && nat_le (longer v b) most) (spelled most (longer v b) bs) None

-- The number of a word: no digit spells none.
abbrev pub number_of : ℕ → List ℕ → Option ℕ
number_of most [] = None
number_of most (b ∷ bs) = spelled most 0 (b ∷ bs)
