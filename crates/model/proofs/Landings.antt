-- What a run did to memory is its space written back.
use Rattle.std.proofs.lemmas.Bool.{and_from, and_parts, false_from_ne_true}
use Rattle.std.proofs.Common.{◌≡◌, ℕ, zero, suc, ◌+◌, ◌*◌, ◌/◌, ◌%◌, ◌<◌, Bool, true, false, cond, ◌&&◌, eqb, Option, sym, refl, ap, ◌∙◌, subst, ⊎_elim, arith, eqb-true}
use Rattle.memory.specs.Memories.{Mem}
use Rattle.space.specs.Cells.{Cells, Frame}
use Rattle.registers.specs.declared.processor.Processor.{Processor}
use Rattle.table.specs.Tables.{entry_of, access_in, writing_in, cells_by, writes, frame_by}
use Rattle.runs.specs.declared.Ran.{Ran}
use Rattle.runs.specs.Runs.{Over, ran as over, run_of}
use Rattle.pages.specs.Held.{Table, page_of, shown, bytes_of, holds, back_byte, back}
use Rattle.std.proofs.lemmas.Bool.{both_ways, or_cases}
use Rattle.pages.proofs.Spaces.{At, named_at, shown_at, lands}
use Rattle.model.specs.declared.job.Job.{Job}
use Rattle.model.specs.Jobs.{ran_job}
use Rattle.model.specs.Calls.{Owed, ran}
use Rattle.model.specs.Acts.{owed_by, ran_left}
use Rattle.model.specs.Worlds.{World, space_at, upd, settle}
use Rattle.model.proofs.Settling.{settles}

-- A page that a table lets its job write, by its sector.
writes_some : (t : Table) (n p : ℕ) → writes t n p ≡ true → (i : ℕ) × At t n p i
writes_some t zero p e = absurd (both_ways false refl e)
writes_some t (suc n) p e =
    let acc : Bool = access_in (entry_of t n) in
    let wr : Bool = writing_in (entry_of t n) in
    let eq : Bool = eqb (page_of t n) p in
    ⊎_elim
    (λ h. (
      n,
      record {
        low = omega arith;
        access = (and_parts acc (wr && eq) h).0;
        page = eqb-true (page_of t n) p ((and_parts wr eq ((and_parts acc (wr && eq) h).1)).1);
      },
    ))
    (λ h. let f = writes_some t n p h in (f.0, record { low = (let l : f.0 < n = f.1.low in omega arith); access = f.1.access; page = f.1.page }))
    (or_cases (acc && (wr && eq)) (writes t n p) e)

cells_shown : (t : Table) (m : Mem) → shown t m ≡ cells_by t m
unfolding shown
cells_shown t m = refl

module _ (t : Table) (m m' : Mem) (s : Cells) (frame : frame_by 0 t m' ≡ frame_by 0 t m) (cells : s ≡ cells_by t m') where
  takes_kept : m'.takes ≡ m.takes
  takes_kept = ap (λ (f : Frame). f.takes) frame

  pub bytes_kept : (x : ℕ) → (writes t 15 (x / 4096) && m.takes (x / 4096)) ≡ false → m'.byte x ≡ m.byte x
  bytes_kept x h =
      sym (ap (λ z. cond z 0 (m'.byte x)) (ap (λ (z : ℕ → Bool). writes t 15 (x / 4096) && z (x / 4096)) takes_kept ∙ h))
      ∙ ap (λ (f : Frame). f.others x) frame
      ∙ ap (λ z. cond z 0 (m.byte x)) h

  outside : (x : ℕ) → (holds t (x / 4096) && m.takes (x / 4096)) ≡ false → m'.byte x ≡ m.byte x
  outside x h =
      let p : ℕ = x / 4096 in
      bytes_kept x (false_from_ne_true (writes t 15 p && m.takes p) (λ e.
      let f = writes_some t 15 p ((and_parts (writes t 15 p) (m.takes p) e).0) in
      absurd (both_ways (holds t p && m.takes p)
      h
      (and_from (holds t p) (m.takes p) (named_at 15 t p f.0 f.1) ((and_parts (writes t 15 p) (m.takes p) e).1)))))

  inside : (x i : ℕ) → At t 15 (x / 4096) i → m.takes (x / 4096) ≡ true → m'.byte x ≡ bytes_of s (i * 4096 + x % 4096)
  inside x i g q = sym (ap (λ (u : Cells). (u (i * 4096 + x % 4096)).byte) (cells ∙ sym (cells_shown t m')) ∙ shown_at t m' 15 x i g)

  pub run_lands : m' ≡ back t (bytes_of s) m
  run_lands = let e : m'.byte ≡ back_byte t (bytes_of s) m = lands t (bytes_of s) m m'.byte outside inside in λ i. record { byte = e i; takes = takes_kept i }

-- A run of the job, by what the code did: the record, the memory and what is owed.
module _ (j n : ℕ) (w : World) (c : Processor) (r : Ran) (f : ℕ → Job) (m : Mem) (o : Option Owed) where
  pub run_settles :
      over r c (cells_by (w.jobs j).table m) ≡ run_of n 0 0 (w.jobs j).processor (cells_by (w.jobs j).table w.mem)
      → frame_by 0 (w.jobs j).table m ≡ frame_by 0 (w.jobs j).table w.mem
      → f ≡ upd w.jobs j (ran_job (w.jobs j) r c) → o ≡ owed_by r.stop j (ran_job (w.jobs j) r c).calls
      → settle j w (ran_left j (w.jobs j) (run_of n 0 0 (w.jobs j).processor (space_at w j))) ≡ record { world = record { jobs = f; mem = m }; answer = ran r o }
  run_settles all frame ef eo =
      let b : Job = w.jobs j in
      let t : Table = b.table in
      let y : Over = over r c (cells_by t m) in
      let e : run_of n 0 0 b.processor (space_at w j) ≡ y = ap (run_of n 0 0 b.processor) (cells_shown t w.mem) ∙ sym all in
      ap (λ (z : Over). settle j w (ran_left j b z)) e
      ∙ settles j w (ran_left j b y) f m (ran r o) ef (run_lands t w.mem m (cells_by t m) frame refl) (ap (ran r) eo)

-- The same at an equal table and processor.
pub run_at : (t u : Table) (n : ℕ) (r : Ran) (c d e : Processor) (m m₀ : Mem) → t ≡ u → c ≡ d
    → over r e (cells_by t m) ≡ run_of n 0 0 c (cells_by t m₀) → over r e (cells_by u m) ≡ run_of n 0 0 d (cells_by u m₀)
run_at t u n r c d e m m₀ et ec h =
    subst (λ (x : Table). over r e (cells_by x m) ≡ run_of n 0 0 d (cells_by x m₀)) et
    (subst (λ (x : Processor). over r e (cells_by t m) ≡ run_of n 0 0 x (cells_by t m₀)) ec h)

pub frame_at : (t u : Table) (m m₀ : Mem) → t ≡ u → frame_by 0 t m ≡ frame_by 0 t m₀ → frame_by 0 u m ≡ frame_by 0 u m₀
frame_at t u m m₀ e h = subst (λ (x : Table). frame_by 0 x m ≡ frame_by 0 x m₀) e h
