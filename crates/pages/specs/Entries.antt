-- The tests of a table that an opening makes, sector by sector, and those of a job's addresses.
use Rattle.std.specs.Prelude.{ℕ, Bool, not, ◌&&◌}
use Rattle.space.specs.Cells.{Cells}
use Rattle.table.specs.Tables.{entry_of, reserved_in, access_in, writing_in}
use Rattle.pages.specs.Held.{Table, page_of, named}

-- The entry has a reserved bit set.
abbrev pub reserved_at : Table → ℕ → Bool
reserved_at t s = reserved_in (entry_of t s)

-- The entry names a page that a lower one names.
abbrev pub again_at : Table → ℕ → Bool
again_at t s = access_in (entry_of t s) && named s t (page_of t s)

-- The entry allows writing into a page that takes none.
abbrev pub fixed_at : Table → (ℕ → Bool) → ℕ → Bool
fixed_at t takes s = access_in (entry_of t s) && (writing_in (entry_of t s) && not (takes (page_of t s)))

-- There is no access at the address; the page of the address takes no writes.
abbrev pub shut_at : Cells → ℕ → Bool
shut_at s a = not (s a).access

abbrev pub refuses_at : Cells → ℕ → Bool
refuses_at s a = not (s a).takes
