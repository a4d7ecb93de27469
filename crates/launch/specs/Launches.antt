-- What an image comes to: opened as job 0 of a new engine, loaded, run, and its figure told.
use Rattle.std.specs.Prelude.{ℕ, List, [], ◌∷◌, Some, None, Ok, Err, Option, Result}
use Rattle.refusal.specs.declared.Refusal.{Refusal}
use Rattle.stop.specs.declared.Stop.TheVariants.{Limit}
use Rattle.memory.specs.Memories.{Mem}
use Rattle.registers.specs.Processors.{bank_of}
use Rattle.runs.specs.declared.Ran.{Ran}
use Rattle.image.specs.Files.{BlockOf, Parsed, image_of}
use Rattle.model.specs.Calls.{asks, opens, loads, runs, abandons, Owed, Answer, refused, done, ran, saw, told}
use Rattle.model.specs.Worlds.{World, Done, new_world, does}
use Rattle.launch.specs.declared.Figure.{Figure}

-- What follows a call: `stop` on its refusal, else `next`.
abbrev pub by_answer : {X : Type 0} → Answer → (Refusal → X) → X → X
by_answer (refused e) stop next = stop e
by_answer done stop next = next
by_answer (ran r o) stop next = next
by_answer (saw bs) stop next = next
by_answer (told s) stop next = next

-- Whether all blocks were loaded, and the world then.
pub record Loaded : Type 0 where
  pub answer : Result (Unit {0}) Refusal
  pub world : World

abbrev pub loaded_by : Result (Unit {0}) Refusal → World → Loaded
loaded_by r w = record { answer = r; world = w }

abbrev pub after_load : Done → (World → Loaded) → Loaded
after_load d rest = by_answer d.answer (λ e. loaded_by (Err e) d.world) (rest d.world)

-- The blocks one after the other, in the order of the file; the first refusal ends it.
unfoldable pub loads_all : List BlockOf → World → Loaded
loads_all [] w = loaded_by (Ok tt) w
loads_all (b ∷ bs) w = after_load (does (asks 0 (loads b.address b.bytes)) w) (loads_all bs)

-- A figure or a refusal, and the world then.
pub record Launched : Type 0 where
  pub answer : Result Figure Refusal
  pub world : World

abbrev pub launched_by : Result Figure Refusal → World → Launched
launched_by r w = record { answer = r; world = w }

-- What a run's answer says; no other call answers so.
abbrev pub ran_in : Answer → Ran
ran_in (ran r o) = r
ran_in (refused e) = record { steps = 0; time = 0; stop = Limit }
ran_in done = record { steps = 0; time = 0; stop = Limit }
ran_in (saw bs) = record { steps = 0; time = 0; stop = Limit }
ran_in (told s) = record { steps = 0; time = 0; stop = Limit }

abbrev pub owed_in : Answer → Option Owed
owed_in (ran r o) = o
owed_in (refused e) = None
owed_in done = None
owed_in (saw bs) = None
owed_in (told s) = None

-- What is owed is abandoned.
abbrev pub settled_by : Option Owed → World → World
settled_by None w = w
settled_by (Some o) w = (does (asks o.job (abandons o.number)) w).world

-- The stop, the steps, and A of the bank in use.
abbrev pub figure_of : Ran → World → Figure
figure_of r w = record { stop = r.stop; steps = r.steps; a = (bank_of (w.jobs 0).processor).a }

abbrev pub after_run : Done → Launched
after_run d =
    by_answer d.answer (λ e. launched_by (Err e) d.world)
    (launched_by (Ok (figure_of (ran_in d.answer) d.world)) (settled_by (owed_in d.answer) d.world))

abbrev pub on_loaded : Result (Unit {0}) Refusal → World → Launched
on_loaded (Err e) w = launched_by (Err e) w
on_loaded (Ok u) w = after_run (does (asks 0 (runs 65535)) w)

abbrev pub runs_loaded : Loaded → Launched
runs_loaded l = on_loaded l.answer l.world

abbrev pub after_open : Done → List BlockOf → Launched
after_open d bs = by_answer d.answer (λ e. launched_by (Err e) d.world) (runs_loaded (loads_all bs d.world))

-- The whole file is judged first; then job 0 of a new engine is opened, loaded, run for 65,535 steps, and what it owes abandoned.
abbrev pub on_image : Result Parsed Refusal → World → Launched
on_image (Err e) w = launched_by (Err e) w
on_image (Ok p) w = after_open (does (opens 0 p.table p.start) w) p.blocks

abbrev pub launch_of : List ℕ → Mem → Launched
launch_of file m = on_image (image_of file) (new_world m)
