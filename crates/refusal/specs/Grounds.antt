-- The number of each ground, 1 to 17.
use Rattle.std.specs.Prelude.{ℕ}
use Rattle.refusal.specs.declared.Ground.{Ground}
use Rattle.refusal.specs.declared.Ground.TheVariants as variants
use Rattle.refusal.specs.declared.Refusal.{Refusal}

abbrev pub number_of : Ground → ℕ
number_of variants.WrongLength = 1
number_of variants.NoImage = 2
number_of variants.Incomplete = 3
number_of variants.NoSuchJob = 4
number_of variants.AlreadyOpen = 5
number_of variants.NotOpen = 6
number_of variants.ReservedBits = 7
number_of variants.PageNamedTwice = 8
number_of variants.PageNotWritable = 9
number_of variants.PageHeld = 10
number_of variants.JobWaiting = 11
number_of variants.JobEnded = 12
number_of variants.TooManySteps = 13
number_of variants.NotOwed = 14
number_of variants.OutOfRange = 15
number_of variants.NoAccess = 16
number_of variants.NoWrites = 17

abbrev pub refusal_of : (ground : Ground) (place : ℕ) → Refusal
refusal_of g p = record { ground = g; place = p }
