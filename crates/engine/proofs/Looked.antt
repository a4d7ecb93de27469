-- A look, by what the code of it answered and left in the buffer.
use Rattle.std.proofs.Common.{◌≡◌, ℕ, List, length, IfErr, Ok, Err, sym, ap, ◌∙◌}
use Rattle.refusal.specs.Judging.{Judgement, also, unless_refused}
use Rattle.pages.specs.Held.{Table, shown}
use Rattle.pages.specs.Looks.{judge_look, seen}
use Rattle.model.specs.Calls.{asks, looks, saw}
use Rattle.model.specs.Acts.{no_such_job, not_open, judge_open_job, judge_ask}
use Rattle.model.specs.Worlds.{World, Done, space_at, does}
use Rattle.model.proofs.Settling.{refuses, accepts, settles_answer}
use Rattle.engine.specs.Answers.{look_answer}
use Rattle.engine.proofs.Judged.{goes_on, alone}

module _ (j a : ℕ) (w : World) (before after : List ℕ) (fine : judge_open_job j (w.jobs j) ≡ Ok tt) where
  judged : judge_ask j (looks a (length before)) (w.jobs j) (space_at w j) ≡ judge_look a (length before) (space_at w j)
  judged =
      goes_on (no_such_job j) (not_open (w.jobs j)) (also (judge_look a (length before) (space_at w j)) (Ok tt)) fine
      ∙ alone (judge_look a (length before) (space_at w j))

  looked : (z : Judgement) → judge_look a (length before) (space_at w j) ≡ z → after ≡ unless_refused z before (seen (length before) a (space_at w j))
      → does (asks j (looks a (length before))) w ≡ record { world = w; answer = look_answer z after }
  looked (Ok u) e ea =
      accepts j (looks a (length before)) w (judged ∙ e) ∙ settles_answer j w (saw (seen (length before) a (space_at w j)))
      ∙ ap {B = Done} (λ (bs : List ℕ). record { world = w; answer = saw bs }) (sym ea)
  looked (Err d) e ea = refuses j (looks a (length before)) w d (judged ∙ e)

  pub look_settles : (t : Table) (r : Judgement) → t ≡ (w.jobs j).table → r ≡ judge_look a (length before) (shown t w.mem)
      → after ≡ unless_refused r before (seen (length before) a (shown t w.mem))
      → does (asks j (looks a (length before))) w ≡ record { world = w; answer = look_answer r after }
  look_settles t r et er ea =
      looked r (sym (er ∙ ap (λ (u : Table). judge_look a (length before) (shown u w.mem)) et))
      (ea ∙ ap (λ (u : Table). unless_refused r before (seen (length before) a (shown u w.mem))) et)

-- A refused one leaves the buffer.
pub look_leaves : (r : Judgement) (before after all : List ℕ) → after ≡ unless_refused r before all → IfErr r (λ _. after ≡ before)
look_leaves (Ok u) before after all e = tt
look_leaves (Err d) before after all e = e
