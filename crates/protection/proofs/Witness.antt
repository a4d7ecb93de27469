-- The premises of protection are met by two engines that differ, and a call of the job's changes it.
use Rattle.std.proofs.Common.{◌≡◌, ℕ, true, false, [], ◌∷◌, replicate, refl, ap, arith}
use Rattle.refusal.specs.Judging.{first_from}
use Rattle.memory.specs.Memories.{Mem}
use Rattle.pages.specs.Held.{Table, shown, finds, named, back_byte}
use Rattle.pages.specs.Loads.{laid_to}
use Rattle.std.proofs.lemmas.Bool.{both_ways}
use Rattle.model.specs.declared.job.Job.{Job}
use Rattle.model.specs.Jobs.{is_open}
use Rattle.model.specs.Calls.{opens, asks, loads, runs}
use Rattle.model.specs.Worlds.{any, held_by}
use Rattle.protection.specs.Histories.{after, calls_to}
use Rattle.protection.specs.Protection.{Met}

-- All pages take writes; every byte is the same.
all : ℕ → Mem
all b = record { byte = λ x. b; takes = λ p. true }

-- Sector 0 is page 3, and sector 0 is page 5, each with access and writing.
mine : Table
mine = 60 ∷ replicate 14 0

theirs : Table
theirs = 92 ∷ replicate 14 0

-- One engine has the job alone over zeros; in the other another job was opened and loaded over nines.
pub met : Met
unfolding all mine theirs after calls_to first_from finds named back_byte shown laid_to any held_by
met = record {
  first = all 0;
  second = all 9;
  before₁ = [];
  before₂ = opens 1 theirs 0 ∷ [];
  job = 0;
  table = mine;
  start = 0;
  opening = record { accepted_first = refl; accepted_second = refl; same_takes = λ p h. refl; same_fixed = λ x h f. absurd (both_ways true f refl) };
  calls₁ = asks 0 (runs 1) ∷ [];
  calls₂ = asks 1 (loads 0 (7 ∷ [])) ∷ asks 0 (runs 1) ∷ [];
  same_calls = refl;
  other_bytes = (0, λ e. let z : ◌≡◌ {A = ℕ} 0 9 = e in omega arith);
  other_jobs = (1, λ e. absurd (both_ways false refl (ap (λ (b : Job). is_open b.status) e)));
  changed = λ e. let z : ◌≡◌ {A = ℕ} 1 0 = ap (λ (b : Job). b.steps) e in omega arith;
}
