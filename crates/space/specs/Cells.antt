-- What a job sees of memory: a cell at each of its addresses.
use Rattle.std.specs.Prelude.{ℕ, Bool, cond, ◌&&◌, List, Ok, Err, Result, ◌==◌}
use Rattle.stop.specs.declared.Fault.{Fault}
use Rattle.stop.specs.declared.Fault.TheVariants.{NoAccess, NoWriting}

-- `takes`: there is access, and the page takes writes. `writable`: moreover the job may write there.
-- The byte is 0 where there is no access, so that a space shows nothing of it.
pub record Cell : Type 0 where
  pub access : Bool
  pub takes : Bool
  pub writable : Bool
  pub byte : ℕ

abbrev pub Cells : Type 0
Cells = ℕ → Cell

abbrev pub read_of : Cells → ℕ → Result ℕ Fault
read_of s at = cond (s at).access (Ok (s at).byte) (Err NoAccess)

-- Whether a write is allowed.
abbrev pub allow_of : Cells → ℕ → Result (Unit {0}) Fault
allow_of s at = cond (s at).access (cond (s at).writable (Ok tt) (Err NoWriting)) (Err NoAccess)

-- The byte goes into the cell at `at`, if that may be written. No other cell changes.
abbrev pub store_of : Cells → ℕ → ℕ → Cells
store_of s at b k =
    record {
      access = (s k).access;
      takes = (s k).takes;
      writable = (s k).writable;
      byte = cond (k == at && ((s at).access && (s at).writable)) b (s k).byte;
    }

-- What a write through a space leaves as it is: who lends the memory, the table, the pages that take writes, and the bytes of the pages that the table does not let it write.
pub record Frame : Type 0 where
  pub lender : ℕ
  pub table : List ℕ
  pub takes : ℕ → Bool
  pub others : ℕ → ℕ
