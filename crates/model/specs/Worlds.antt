-- What a call does to an engine and to the memory that it is lent.
use Rattle.std.specs.Prelude.{ℕ, zero, suc, Bool, false, cond, not, ◌&&◌, ◌||◌, List, [], ◌∷◌, replicate, is_some, Ok, Err, ◌==◌, slice_index_or}
use Rattle.refusal.specs.declared.Ground.TheVariants.{AlreadyOpen, ReservedBits, PageNamedTwice, PageNotWritable, PageHeld}
use Rattle.refusal.specs.Judging.{Judgement, when, at, first, first_from}
use Rattle.memory.specs.Memories.{Mem}
use Rattle.space.specs.Cells.{Cells}
use Rattle.table.specs.Tables.{entry_of, access_in}
use Rattle.pages.specs.Held.{Table, page_of, shown, holds, back}
use Rattle.pages.specs.Entries.{reserved_at, again_at, fixed_at}
use Rattle.model.specs.declared.job.Job.{Job}
use Rattle.model.specs.Jobs.{closed_job, opened_job, is_open}
use Rattle.model.specs.Calls.{Call, opens, asks, Answer, refused, done}
use Rattle.model.specs.Acts.{Left, Act, no_such_job, act_of}

-- The job of each number, and the memory's meaning.
pub record World : Type 0 where
  pub jobs : ℕ → Job
  pub mem : Mem

pub record Done : Type 0 where
  pub world : World
  pub answer : Answer

-- What a job sees.
abbrev pub space_at : World → ℕ → Cells
space_at w j = shown (w.jobs j).table w.mem

-- The jobs with another record at the number `j`.
abbrev pub upd : (ℕ → Job) → ℕ → Job → ℕ → Job
upd f j b k = cond (k == j) b (f k)

-- The world once an act left `x` of the job: its record is replaced, and its space written back.
abbrev pub settle : ℕ → World → Left → Done
settle j w x =
    record { world = record { jobs = upd w.jobs j x.job; mem = back (w.jobs j).table x.bytes w.mem }; answer = x.answer }

abbrev pub on_job : Act → ℕ → World → Done
on_job f j w = settle j w (f (w.jobs j) (space_at w j))

-- Whether the test holds of some number below `n`.
unfoldable pub any : ℕ → (ℕ → Bool) → Bool
any zero f = false
any (suc n) f = f n || any n f

-- Whether another job than `j` holds the page. A closed job holds none.
unfoldable pub held_by : ℕ → (ℕ → Job) → ℕ → ℕ → Bool
held_by n jobs j p = any n (λ k. not (k == j) && holds (jobs k).table p)

-- The entry names a page that takes writes and that another job holds.
abbrev pub held_at : (ℕ → Job) → (ℕ → Bool) → ℕ → Table → ℕ → Bool
held_at jobs takes j t s = access_in (entry_of t s) && (takes (page_of t s) && held_by 8 jobs j (page_of t s))

-- The grounds of an opening, each over all sectors before the next.
abbrev pub judge_open : ℕ → Table → World → Judgement
judge_open j t w =
    first (no_such_job j
    ∷ when (is_open (w.jobs j).status) AlreadyOpen
    ∷ at ReservedBits (first_from 15 0 (reserved_at t))
    ∷ at PageNamedTwice (first_from 15 0 (again_at t))
    ∷ at PageNotWritable (first_from 15 0 (fixed_at t w.mem.takes))
    ∷ at PageHeld (first_from 15 0 (held_at w.jobs w.mem.takes j t))
    ∷ [])

-- An accepted opening puts 0 into the pages that the job then holds and that take writes.
abbrev pub opened : ℕ → Table → ℕ → World → Done
opened j t start w =
    record { world = record { jobs = upd w.jobs j (opened_job t start); mem = back t (λ a. 0) w.mem }; answer = done }

abbrev pub unless_open : Judgement → ℕ → Table → ℕ → World → Done
unless_open (Err r) j t start w = record { world = w; answer = refused r }
unless_open (Ok u) j t start w = opened j t start w

-- What each call does.
abbrev pub does : Call → World → Done
does (opens j t start) w = unless_open (judge_open j t w) j t start w
does (asks j x) w = on_job (act_of j x) j w

-- The world of an engine's eight records; another number names no open job.
abbrev pub no_job : Job
no_job = record { processor = closed_job.processor; table = []; steps = 0; time = 0; calls = 0; status = closed_job.status }

abbrev pub jobs_of : List Job → ℕ → Job
jobs_of js k = slice_index_or js k no_job

abbrev pub world_of : List Job → Mem → World
world_of js m = record { jobs = jobs_of js; mem = m }

-- A new engine has none open.
abbrev pub new_world : Mem → World
new_world m = world_of (replicate 8 closed_job) m

-- A table names a page twice.
abbrev pub twice : Table → Bool
twice t = is_some (first_from 15 0 (again_at t))
