-- No call alters a byte that its job has no right to.
use Rattle.std.proofs.lemmas.Bool.{and_from, and_parts, false_from_ne_true}
use Rattle.std.proofs.Common.{◌≡◌, ℕ, ◌+◌, ◌*◌, ◌/◌, ◌%◌, Bool, true, false, ◌&&◌, Ok, Err, sym, refl, ap, ◌∙◌}
use Rattle.refusal.specs.Judging.{Judgement}
use Rattle.memory.specs.Memories.{Mem}
use Rattle.registers.specs.declared.processor.Processor.{Processor}
use Rattle.table.specs.Tables.{entry_of, access_in, writing_in, page_in, writes}
use Rattle.table.proofs.Places.{named}
use Rattle.runs.specs.Runs.{run_of}
use Rattle.runs.proofs.Kept.{run_quiet}
use Rattle.pages.specs.Held.{Table, shown, bytes_of}
use Rattle.std.proofs.lemmas.Bool.{both_ways}
use Rattle.pages.proofs.Spaces.{At, in_sector, shown_at, back_all, back_else}
use Rattle.model.specs.declared.job.Job.{Job}
use Rattle.model.specs.Jobs.{opened_job}
use Rattle.model.specs.Calls.{Call, opens, asks, runs}
use Rattle.model.specs.Acts.{Left, judge_ask, effect_of, unless, act_of}
use Rattle.model.specs.Worlds.{World, space_at}
use Rattle.model.proofs.Settling.{upd_same, upd_other}
use Rattle.protection.specs.Protection.{may_change, Confined, ConfinedRun}
use Rattle.protection.proofs.Invariant.{open_all}

opening : (j : ℕ) (t : Table) (start : ℕ) (w : World) → Confined (opens j t start) w
opening j t start w = record {
  bytes = λ x before.
      open_all (λ d. may_change (d.world.jobs j) w.mem (x / 4096) ≡ false → d.world.mem.byte x ≡ w.mem.byte x) j t start w
      (λ o f. back_else t (λ a. 0) w.mem x (ap (λ (b : Job). may_change b w.mem (x / 4096)) (sym (upd_same w.jobs j (opened_job t start))) ∙ f))
      (λ e f. refl);
  takes = open_all (λ d. d.world.mem.takes ≡ w.mem.takes) j t start w (λ o. refl) (λ e. refl);
  others = λ i ne. open_all (λ d. d.world.jobs i ≡ w.jobs i) j t start w (λ o. upd_other w.jobs j (opened_job t start) i ne) (λ e. refl);
}

pub confined : (c : Call) (w : World) → Confined c w
confined (opens j t start) w = opening j t start w
confined (asks j x) w =
    let l : Left = act_of j x (w.jobs j) (space_at w j) in
    record {
      bytes = λ a before behind. back_else (w.jobs j).table l.bytes w.mem a before;
      takes = refl;
      others = λ i ne. upd_other w.jobs j l.job i ne;
    }

-- A run leaves the bytes of the pages that the table does not let it write.
run_byte : (t : Table) (m : Mem) (n : ℕ) (c : Processor) (x i : ℕ) → (writes t 15 (x / 4096) && m.takes (x / 4096)) ≡ false → At t 15 (x / 4096) i → m.takes (x / 4096) ≡ true
    → bytes_of (run_of n 0 0 c (shown t m)).cells (i * 4096 + x % 4096) ≡ m.byte x
unfolding shown
run_byte t m n c x i h g q =
    let a : ℕ = i * 4096 + x % 4096 in
    let e : ℕ = entry_of t (a / 4096) in
    let here : e ≡ entry_of t i = ap (entry_of t) (in_sector i x) in
    let acc : Bool = access_in e in
    let wr : Bool = writing_in e && m.takes (page_in e) in
    (run_quiet n 0 0 c (shown t m) a).byte
    (false_from_ne_true (acc && (acc && wr)) (λ p.
    let writing : writing_in (entry_of t i) ≡ true = ap writing_in (sym here) ∙ (and_parts (writing_in e) (m.takes (page_in e)) ((and_parts acc wr ((and_parts acc (acc && wr) p).1)).1)).0 in
    absurd (both_ways (writes t 15 (x / 4096) && m.takes (x / 4096)) h
    (and_from (writes t 15 (x / 4096)) (m.takes (x / 4096)) (ap (writes t 15) (sym g.page) ∙ named t 15 i g.low g.access writing) q))))
    ∙ shown_at t m 15 x i g

pub confined_run : ConfinedRun
confined_run j limit w x h =
    let t : Table = (w.jobs j).table in
    let b : Job = w.jobs j in
    back_all (λ v. v ≡ w.mem.byte x) t (act_of j (runs limit) b (space_at w j)).bytes w.mem x (λ e. refl) (go (judge_ask j (runs limit) b (space_at w j)))
  where
    go : (z : Judgement) (i : ℕ) → At (w.jobs j).table 15 (x / 4096) i → w.mem.takes (x / 4096) ≡ true
        → (unless z (effect_of j (runs limit)) (w.jobs j) (space_at w j)).bytes (i * 4096 + x % 4096) ≡ w.mem.byte x
    go (Ok u) i g q = run_byte (w.jobs j).table w.mem limit (w.jobs j).processor x i h g q
    go (Err e) i g q = shown_at (w.jobs j).table w.mem 15 x i g
