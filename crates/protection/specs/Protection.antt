-- Protection: what a job answers, holds and sees is made by its own calls alone, and no call alters a byte that its job has no right to.
use Rattle.std.specs.Prelude.{◌≡◌, ℕ, ◌/◌, Bool, true, false, ◌&&◌, ◌≢◌, List}
use Rattle.memory.specs.Memories.{Mem}
use Rattle.table.specs.Tables.{writes}
use Rattle.pages.specs.Held.{Table, holds}
use Rattle.model.specs.declared.job.Job.{Job}
use Rattle.model.specs.Calls.{Call, opens, asks, runs, names, done}
use Rattle.model.specs.Worlds.{World, new_world, does}
use Rattle.protection.specs.Histories.{after, calls_to, said_to, upto_end, endless, calls_of}

-- (a) The job's own calls

-- Both engines accept the same opening of the job; the same of its pages take writes, and its other pages hold equal bytes.
pub record SameOpening (j : ℕ) (t : Table) (start : ℕ) (v w : World) : Type 0 where
  pub accepted_first : (does (opens j t start) v).answer ≡ done
  pub accepted_second : (does (opens j t start) w).answer ≡ done
  pub same_takes : (p : ℕ) → holds t p ≡ true → v.mem.takes p ≡ w.mem.takes p
  pub same_fixed : (x : ℕ) → holds t (x / 4096) ≡ true → v.mem.takes (x / 4096) ≡ false → v.mem.byte x ≡ w.mem.byte x

-- The job's record is the same in both, and so are the bytes of all its pages.
pub record SameJob (j : ℕ) (v w : World) : Type 0 where
  pub same_record : v.jobs j ≡ w.jobs j
  pub same_bytes : (x : ℕ) → holds (v.jobs j).table (x / 4096) ≡ true → v.mem.byte x ≡ w.mem.byte x

-- Two new engines over any two memories, any calls before the opening and any after it. `own` picks the job's own calls:
-- where these are the same, their answers are equal, up to and with the one that ends the job; and where none ended it, the job is the same.
abbrev pub MadeByOwn : (ℕ → List Call → World → List Call) → Type 0
MadeByOwn own =
    (m n : Mem) (before₁ before₂ : List Call) (j : ℕ) (t : Table) (start : ℕ)
    → SameOpening j t start (after before₁ (new_world m)) (after before₂ (new_world n))
    → (calls₁ calls₂ : List Call)
    → let v : World = (does (opens j t start) (after before₁ (new_world m))).world in
    let w : World = (does (opens j t start) (after before₂ (new_world n))).world in
    own j calls₁ v ≡ own j calls₂ w
    → (upto_end (said_to j calls₁ v) ≡ upto_end (said_to j calls₂ w))
    × (endless (said_to j calls₁ v) ≡ true → SameJob j (after calls₁ v) (after calls₂ w))

-- All calls that name the job, and only those up to and with the one that ends it.
abbrev pub all_calls : ℕ → List Call → World → List Call
all_calls j cs w = calls_to j cs

abbrev pub calls_to_end : ℕ → List Call → World → List Call
calls_to_end j cs w = calls_of (upto_end (said_to j cs w))

-- (b) What no call alters

-- The pages that take writes and that the job holds; those of them that its table lets it write.
abbrev pub may_change : Job → Mem → ℕ → Bool
may_change b m p = holds b.table p && m.takes p

abbrev pub may_write : Job → Mem → ℕ → Bool
may_write b m p = writes b.table 15 p && m.takes p

pub record Confined (c : Call) (w : World) : Type 0 where
  -- A byte outside the pages that take writes and that the called job holds before or after the call is as before.
  pub bytes : (x : ℕ) → may_change (w.jobs (names c)) w.mem (x / 4096) ≡ false
      → may_change ((does c w).world.jobs (names c)) w.mem (x / 4096) ≡ false → (does c w).world.mem.byte x ≡ w.mem.byte x
  -- The pages that take writes are as before.
  pub takes : (does c w).world.mem.takes ≡ w.mem.takes
  -- The other records are as before.
  pub others : (i : ℕ) → i ≢ names c → (does c w).world.jobs i ≡ w.jobs i

-- After a run, a byte outside those that its table lets it write is as before.
abbrev pub ConfinedRun : Type 0
ConfinedRun = (j limit : ℕ) (w : World) (x : ℕ) → may_write (w.jobs j) w.mem (x / 4096) ≡ false → (does (asks j (runs limit)) w).world.mem.byte x ≡ w.mem.byte x

-- (c) The premises can be met: two engines with other neighbours and other bytes elsewhere, in which a call of the job's changes it.
pub record Met : Type 0 where
  pub first : Mem
  pub second : Mem
  pub before₁ : List Call
  pub before₂ : List Call
  pub job : ℕ
  pub table : Table
  pub start : ℕ
  pub opening : SameOpening job table start (after before₁ (new_world first)) (after before₂ (new_world second))
  pub calls₁ : List Call
  pub calls₂ : List Call
  pub same_calls : calls_to job calls₁ ≡ calls_to job calls₂
  pub other_bytes : (x : ℕ) × ((after before₁ (new_world first)).mem.byte x ≢ (after before₂ (new_world second)).mem.byte x)
  pub other_jobs : (i : ℕ) × ((after before₁ (new_world first)).jobs i ≢ (after before₂ (new_world second)).jobs i)
  pub changed :
      let v : World = (does (opens job table start) (after before₁ (new_world first))).world in
      (after calls₁ v).jobs job ≢ v.jobs job

-- The whole.
pub record Protected : Type 0 where
  pub own_calls : MadeByOwn all_calls
  pub own_calls_to_end : MadeByOwn calls_to_end
  pub confined : (c : Call) (w : World) → Confined c w
  pub confined_run : ConfinedRun
  pub met : Met
