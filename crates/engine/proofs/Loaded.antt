-- A load, by what the code of it answered and left.
use Rattle.std.proofs.Common.{◌≡◌, ℕ, List, Ok, Err, sym, refl, ap, ◌∙◌}
use Rattle.refusal.specs.Judging.{Judgement, also, unless_refused}
use Rattle.memory.specs.Memories.{Mem}
use Rattle.pages.specs.Held.{Table, shown, bytes_of, back}
use Rattle.pages.specs.Loads.{judge_load, laid, loaded_mem}
use Rattle.model.specs.Calls.{asks, loads, done, refused}
use Rattle.model.specs.Acts.{no_such_job, not_open, judge_open_job, judge_ask, effect_of}
use Rattle.model.specs.Worlds.{World, Done, space_at, does}
use Rattle.model.proofs.Settling.{upd_self, settles, refuses, accepts}
use Rattle.engine.specs.Answers.{done_answer}
use Rattle.engine.proofs.Judged.{goes_on, alone}

module _ (j a : ℕ) (bs : List ℕ) (w : World) (m : Mem) (r : Judgement) (fine : judge_open_job j (w.jobs j) ≡ Ok tt) where
  judged : judge_ask j (loads a bs) (w.jobs j) (space_at w j) ≡ judge_load a bs (space_at w j)
  judged =
      goes_on (no_such_job j) (not_open (w.jobs j)) (also (judge_load a bs (space_at w j)) (Ok tt)) fine
      ∙ alone (judge_load a bs (space_at w j))

  settled : (z : Judgement) → judge_load a bs (space_at w j) ≡ z
      → m ≡ unless_refused z w.mem (back (w.jobs j).table (laid a bs (bytes_of (space_at w j))) w.mem)
      → does (asks j (loads a bs)) w ≡ record { world = record { jobs = w.jobs; mem = m }; answer = done_answer z }
  settled (Ok u) e em =
      accepts j (loads a bs) w (judged ∙ e)
      ∙ settles j w (effect_of j (loads a bs) (w.jobs j) (space_at w j)) w.jobs m done (sym (upd_self w.jobs j)) em refl
  settled (Err d) e em =
      refuses j (loads a bs) w d (judged ∙ e)
      ∙ ap {B = Done} (λ (x : Mem). record { world = record { jobs = w.jobs; mem = x }; answer = refused d }) (sym em)

  pub load_settles : (t : Table) → t ≡ (w.jobs j).table → r ≡ judge_load a bs (shown t w.mem) → m ≡ loaded_mem t a bs w.mem
      → does (asks j (loads a bs)) w ≡ record { world = record { jobs = w.jobs; mem = m }; answer = done_answer r }
  load_settles t et er em =
      let here : r ≡ judge_load a bs (space_at w j) = er ∙ ap (λ (u : Table). judge_load a bs (shown u w.mem)) et in
      settled r (sym here)
      (em ∙ ap (λ (u : Table). loaded_mem u a bs w.mem) et
      ∙ ap (λ (z : Judgement). unless_refused z w.mem (back (w.jobs j).table (laid a bs (bytes_of (space_at w j))) w.mem)) (sym here))
