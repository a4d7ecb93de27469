-- The stack: sixteen entries that wrap, and the next to fill.
use Rattle.std.specs.Prelude.{ℕ, ◌+◌, ◌%◌, replicate, slice_index, slice_set}
use Rattle.std.proofs.Common.{mod-lt, lit<}
use Rattle.registers.specs.declared.stack.Stack.{Stack}

abbrev pub no_stack : Stack
no_stack = record { entries = replicate 16 0; top = 0; small = lit< tt }

abbrev pub pushed : Stack → ℕ → Stack
pushed s v = record { entries = slice_set s.entries s.top v; top = (s.top + 1) % 16; small = mod-lt (s.top + 1) (lit< tt) }

abbrev pub on_top : Stack → ℕ
on_top s = slice_index s.entries ((s.top + 15) % 16)

-- A pop leaves its entry in place.
abbrev pub popped : Stack → Stack
popped s = record { entries = s.entries; top = (s.top + 15) % 16; small = mod-lt (s.top + 15) (lit< tt) }
