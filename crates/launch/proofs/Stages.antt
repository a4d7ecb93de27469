-- The stages of a launch, one after the other.
use Rattle.std.proofs.Common.{◌≡◌, ℕ, List, [], ◌∷◌, Ok, Err, Option, Result, sym, ap, ◌∙◌, ap₂}
use Rattle.std.specs.Result.{IsErrAnd}
use Rattle.std.proofs.lemmas.Result.{err_from_is_err_and}
use Rattle.refusal.specs.declared.Refusal.{Refusal}
use Rattle.memory.specs.Memories.{Mem}
use Rattle.runs.specs.declared.Ran.{Ran}
use Rattle.image.specs.declared.Image.{Image}
use Rattle.image.specs.Files.{BlockOf, Parsed, image_of}
use Rattle.image.specs.Parts.{parsed, image_blocks}
use Rattle.model.specs.Calls.{asks, opens, loads, runs, Owed, refused, done, ran}
use Rattle.model.specs.Worlds.{World, Done, new_world, does}
use Rattle.launch.specs.declared.Figure.{Figure}
use Rattle.launch.proofs.Ran.{settled_mem}
use Rattle.launch.specs.Launches.{Launched, loaded_by, after_load, loads_all, launched_by, settled_by, figure_of, after_run, runs_loaded, after_open, on_image, launch_of}

-- A block more, the block that is refused, and no block more.
module _ (whole : List BlockOf) (w : World) where
  pub load_one : (b : BlockOf) (bs : List BlockOf) (v : World) → whole ≡ b ∷ bs → does (asks 0 (loads b.address b.bytes)) w ≡ record { world = v; answer = done }
      → loads_all bs v ≡ loads_all whole w
  unfolding loads_all
  load_one b bs v e h = sym (ap (λ (l : List BlockOf). loads_all l w) e ∙ ap (λ (d : Done). after_load d (loads_all bs)) h)

  pub load_stop : (b : BlockOf) (bs : List BlockOf) (v : World) (r : Refusal) → whole ≡ b ∷ bs
      → does (asks 0 (loads b.address b.bytes)) w ≡ record { world = v; answer = refused r } → loaded_by (Err r) v ≡ loads_all whole w
  unfolding loads_all
  load_stop b bs v r e h = sym (ap (λ (l : List BlockOf). loads_all l w) e ∙ ap (λ (d : Done). after_load d (loads_all bs)) h)

  pub load_end : whole ≡ [] → loaded_by (Ok tt) w ≡ loads_all whole w
  unfolding loads_all
  load_end e = sym (ap (λ (l : List BlockOf). loads_all l w) e)

-- A refused file.
pub file_refused : (file : List ℕ) (m : Mem) (e : Refusal) → Err e ≡ image_of file → launch_of file m ≡ launched_by (Err e) (new_world m)
file_refused file m e h = ap (λ (x : Result Parsed Refusal). on_image x (new_world m)) (sym h)

-- A file that is read, opened in the world `w` of a new engine.
module _ (file : List ℕ) (m : Mem) (p : Parsed) (w : World) (read : Ok p ≡ image_of file) (new : w ≡ new_world m) where
  opening : launch_of file m ≡ after_open (does (opens 0 p.table p.start) w) p.blocks
  opening =
      ap (λ (x : Result Parsed Refusal). on_image x (new_world m)) (sym read)
      ∙ ap (λ (x : World). after_open (does (opens 0 p.table p.start) x) p.blocks) (sym new)

  pub open_refused : (v : World) (e : Refusal) → does (opens 0 p.table p.start) w ≡ record { world = v; answer = refused e } → launch_of file m ≡ launched_by (Err e) v
  open_refused v e h = opening ∙ ap (λ (d : Done). after_open d p.blocks) h

  module _ (v : World) (opened : does (opens 0 p.table p.start) w ≡ record { world = v; answer = done }) where
    loading : launch_of file m ≡ runs_loaded (loads_all p.blocks v)
    loading = opening ∙ ap (λ (d : Done). after_open d p.blocks) opened

    pub load_refused : (u : World) (e : Refusal) → loaded_by (Err e) u ≡ loads_all p.blocks v → launch_of file m ≡ launched_by (Err e) u
    load_refused u e h = loading ∙ ap runs_loaded (sym h)

    module _ (u : World) (loaded : loaded_by (Ok tt) u ≡ loads_all p.blocks v) where
      running : launch_of file m ≡ after_run (does (asks 0 (runs 65535)) u)
      running = loading ∙ ap runs_loaded (sym loaded)

      pub run_refused : (t : World) (e : Refusal) → does (asks 0 (runs 65535)) u ≡ record { world = t; answer = refused e } → launch_of file m ≡ launched_by (Err e) t
      run_refused t e h = running ∙ ap after_run h

      pub ran_out : (t : World) (r : Ran) (o : Option Owed) → does (asks 0 (runs 65535)) u ≡ record { world = t; answer = ran r o }
          → launch_of file m ≡ launched_by (Ok (figure_of r t)) (settled_by o t)
      ran_out t r o h = running ∙ ap after_run h

-- How a launch ends by its meaning, as the code answers it: with a refusal that is handed on, or with a figure.
ends_refused : (l : Launched) (u : World) (e : Refusal) (r : Result Figure Refusal) → l ≡ launched_by (Err e) u → IsErrAnd r (λ d. d ≡ e)
    → (r ≡ l.answer) × (u.mem ≡ l.world.mem)
ends_refused l u e r all h =
    let q = err_from_is_err_and r h in
    (q.1 ∙ ap (λ (d : Refusal). Err d) q.2 ∙ sym (ap (λ (x : Launched). x.answer) all), sym (ap (λ (x : Launched). x.world.mem) all))

-- An image that was read, opened with its table `t` and start `s` in the world `w` of a new engine.
module _ (file : List ℕ) (m : Mem) (image : Image) (w : World) (t : List ℕ) (s : ℕ) (read : parsed (Ok image) ≡ image_of file) (new : w ≡ new_world m)
    (table : t ≡ image.table) (start : s ≡ image.start) where
  abbrev whole : Parsed
  whole = record { table = image.table; start = image.start; blocks = image_blocks image }

  by_image : (d : Done) → does (opens 0 t s) w ≡ d → does (opens 0 image.table image.start) w ≡ d
  by_image d h = ap₂ (λ (x : List ℕ) (y : ℕ). does (opens 0 x y) w) (sym table) (sym start) ∙ h

  pub open_ends : (v : World) (e : Refusal) (r : Result Figure Refusal) → does (opens 0 t s) w ≡ record { world = v; answer = refused e } → IsErrAnd r (λ d. d ≡ e)
      → (r ≡ (launch_of file m).answer) × (v.mem ≡ (launch_of file m).world.mem)
  open_ends v e r h k = ends_refused _ v e r (open_refused file m whole w read new v e (by_image _ h)) k

  -- Its blocks `bs` are loaded in the world `v`.
  module _ (v : World) (bs : List BlockOf) (opened : does (opens 0 t s) w ≡ record { world = v; answer = done }) (blocks : bs ≡ image_blocks image) where
    pub load_ends : (u : World) (e : Refusal) (r : Result Figure Refusal) → loaded_by (Err e) u ≡ loads_all bs v → IsErrAnd r (λ d. d ≡ e)
        → (r ≡ (launch_of file m).answer) × (u.mem ≡ (launch_of file m).world.mem)
    load_ends u e r h k =
        ends_refused _ u e r (load_refused file m whole w read new v (by_image _ opened) u e (h ∙ ap (λ (l : List BlockOf). loads_all l v) blocks)) k

    -- It is run in the world `u`.
    module _ (u : World) (loaded : loaded_by (Ok tt) u ≡ loads_all bs v) where
      all_loaded : loaded_by (Ok tt) u ≡ loads_all (image_blocks image) v
      all_loaded = loaded ∙ ap (λ (l : List BlockOf). loads_all l v) blocks

      pub run_ends : (x : World) (e : Refusal) (r : Result Figure Refusal) → does (asks 0 (runs 65535)) u ≡ record { world = x; answer = refused e } → IsErrAnd r (λ d. d ≡ e)
          → (r ≡ (launch_of file m).answer) × (x.mem ≡ (launch_of file m).world.mem)
      run_ends x e r h k = ends_refused _ x e r (run_refused file m whole w read new v (by_image _ opened) u all_loaded x e h) k

      pub ran_ends : (x : World) (r : Ran) (o : Option Owed) (f : Figure) → does (asks 0 (runs 65535)) u ≡ record { world = x; answer = ran r o } → f ≡ figure_of r x
          → (Ok f ≡ (launch_of file m).answer) × (x.mem ≡ (launch_of file m).world.mem)
      ran_ends x r o f h k =
          let all : launch_of file m ≡ launched_by (Ok (figure_of r x)) (settled_by o x) = ran_out file m whole w read new v (by_image _ opened) u all_loaded x r o h in
          (ap {B = Result Figure Refusal} (λ (g : Figure). Ok g) k ∙ sym (ap (λ (l : Launched). l.answer) all), sym (ap (λ (l : Launched). l.world.mem) all ∙ settled_mem o x))
