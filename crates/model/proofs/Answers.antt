-- Answers of different kinds differ, and a stop leaves the job open.
use Rattle.std.proofs.Common.{◌≡◌, ℕ, true, false, Option, refl, arith}
use Rattle.refusal.specs.declared.Refusal.{Refusal}
use Rattle.stop.specs.declared.Trap.{Trap}
use Rattle.stop.specs.declared.Trap.TheVariants.{Halt, SystemCall, Breakpoint}
use Rattle.stop.specs.declared.Stop.{Stop}
use Rattle.stop.specs.declared.Stop.TheVariants.{Limit, Trapped, Faulted}
use Rattle.memory.specs.Memories.{Mem}
use Rattle.runs.specs.declared.Ran.{Ran}
use Rattle.model.specs.declared.job.State.{State}
use Rattle.model.specs.Jobs.{is_open, status_after}
use Rattle.model.specs.Calls.{Owed, refused, done, ran, told}

pub refused_done : {A : Type 0} (e : Refusal) → refused e ≡ done → A
refused_done e p = absurd (let z : ◌≡◌ {A = ℕ} 0 1 = cc in omega arith)

pub refused_ran : {A : Type 0} (e : Refusal) (r : Ran) (o : Option Owed) → refused e ≡ ran r o → A
refused_ran e r o p = absurd (let z : ◌≡◌ {A = ℕ} 0 1 = cc in omega arith)

pub refused_told : {A : Type 0} (e : Refusal) (s : State) → refused e ≡ told s → A
refused_told e s p = absurd (let z : ◌≡◌ {A = ℕ} 0 1 = cc in omega arith)

trap_open : (e : Trap) → is_open (status_after (Trapped e)) ≡ true
trap_open Halt = refl
trap_open SystemCall = refl
trap_open Breakpoint = refl

pub stop_open : (e : Stop) → is_open (status_after e) ≡ true
stop_open Limit = refl
stop_open (Trapped e) = trap_open e
stop_open (Faulted e) = refl

-- Any memory: what a call without one answers does not depend on it.
pub no_mem : Mem
no_mem = record { byte = λ a. 0; takes = λ p. false }
