-- How an act settles in a world.
use Rattle.std.proofs.Common.{◌≡◌, ℕ, Bool, true, false, cond, eqb, ◌≢◌, Ok, Err, sym, refl, ap, ◌∙◌, eq-eqb, ne_eqb, eqb-true}
use mathlib.Core.Path.{fun_ext}
use Rattle.refusal.specs.declared.Refusal.{Refusal}
use Rattle.memory.specs.Memories.{Mem}
use Rattle.pages.specs.Held.{back}
use Rattle.pages.proofs.Spaces.{back_same}
use Rattle.model.specs.declared.job.Job.{Job}
use Rattle.model.specs.Calls.{Ask, Answer, refused, asks}
use Rattle.model.specs.Acts.{Left, says, unless, judge_ask, effect_of}
use Rattle.model.specs.Worlds.{World, space_at, upd, settle, does}

pub upd_self : (f : ℕ → Job) (j : ℕ) → upd f j (f j) ≡ f
upd_self f j = fun_ext (λ k. go k (eqb k j) refl)
  where
    go : (k : ℕ) (z : Bool) → eqb k j ≡ z → cond z (f j) (f k) ≡ f k
    go k true e = ap f (sym (eqb-true k j e))
    go k false e = refl

pub upd_same : (f : ℕ → Job) (j : ℕ) (b : Job) → upd f j b j ≡ b
upd_same f j b = ap (λ z. cond z b (f j)) (eq-eqb j j refl)

pub upd_other : (f : ℕ → Job) (j : ℕ) (b : Job) (k : ℕ) → k ≢ j → upd f j b k ≡ f k
upd_other f j b k ne = ap (λ z. cond z b (f k)) (ne_eqb k j ne)

-- The world that an act leaves, by its parts.
pub settles : (j : ℕ) (w : World) (x : Left) (f : ℕ → Job) (m : Mem) (a : Answer)
    → f ≡ upd w.jobs j x.job → m ≡ back (w.jobs j).table x.bytes w.mem → a ≡ x.answer
    → settle j w x ≡ record { world = record { jobs = f; mem = m }; answer = a }
settles j w x f m a ef em ea = λ i. record { world = record { jobs = sym ef i; mem = sym em i }; answer = sym ea i }

-- One that leaves the bytes.
pub settles_record : (j : ℕ) (w : World) (b : Job) (f : ℕ → Job) (a : Answer) → f ≡ upd w.jobs j b
    → settle j w (says a b (space_at w j)) ≡ record { world = record { jobs = f; mem = w.mem }; answer = a }
settles_record j w b f a ef = settles j w (says a b (space_at w j)) f w.mem a ef (sym (back_same (w.jobs j).table w.mem)) refl

-- One that only answers.
pub settles_answer : (j : ℕ) (w : World) (a : Answer) → settle j w (says a (w.jobs j) (space_at w j)) ≡ record { world = w; answer = a }
settles_answer j w a = settles_record j w (w.jobs j) w.jobs a (sym (upd_self w.jobs j))

-- A refused call, and an accepted one.
module _ (j : ℕ) (x : Ask) (w : World) where
  pub refuses : (e : Refusal) → judge_ask j x (w.jobs j) (space_at w j) ≡ Err e → does (asks j x) w ≡ record { world = w; answer = refused e }
  refuses e h = ap (λ z. settle j w (unless z (effect_of j x) (w.jobs j) (space_at w j))) h ∙ settles_answer j w (refused e)

  pub accepts : judge_ask j x (w.jobs j) (space_at w j) ≡ Ok tt → does (asks j x) w ≡ settle j w (effect_of j x (w.jobs j) (space_at w j))
  accepts h = ap (λ z. settle j w (unless z (effect_of j x) (w.jobs j) (space_at w j))) h
