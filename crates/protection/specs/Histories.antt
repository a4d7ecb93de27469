-- Lists of calls on an engine, each finding engine and memory as the one before left them, and what a job is told.
use Rattle.std.specs.Prelude.{ℕ, Bool, true, cond, not, ◌&&◌, List, [], ◌∷◌, map, ◌==◌}
use Rattle.model.specs.Calls.{Call, names, Answer, ends}
use Rattle.model.specs.Worlds.{World, does}

-- The world after a list of calls.
unfoldable pub after : List Call → World → World
after [] w = w
after (c ∷ cs) w = after cs (does c w).world

-- A call with its answer.
pub record Said : Type 0 where
  pub call : Call
  pub answer : Answer

-- The calls of a list that name the job.
unfoldable pub calls_to : ℕ → List Call → List Call
calls_to j [] = []
calls_to j (c ∷ cs) = cond (names c == j) (c ∷ calls_to j cs) (calls_to j cs)

-- These with the answers that they get, from the world before the list on.
unfoldable pub said_to : ℕ → List Call → World → List Said
said_to j [] w = []
said_to j (c ∷ cs) w =
    cond (names c == j) (record { call = c; answer = (does c w).answer } ∷ said_to j cs (does c w).world) (said_to j cs (does c w).world)

-- Up to and with the first that ended the job: an accepted closing or abandoning.
unfoldable pub upto_end : List Said → List Said
upto_end [] = []
upto_end (s ∷ ss) = s ∷ cond (ends s.call s.answer) [] (upto_end ss)

-- Whether none ended it.
unfoldable pub endless : List Said → Bool
endless [] = true
endless (s ∷ ss) = not (ends s.call s.answer) && endless ss

abbrev pub calls_of : List Said → List Call
calls_of = map (λ s. s.call)
