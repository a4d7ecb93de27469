-- The status as it is printed.
use Rattle.std.specs.Prelude.{ℕ, List, codes}
use Rattle.model.specs.declared.job.Status.{Status}
use Rattle.model.specs.declared.job.Status.TheVariants.{Closed, Ready, Waiting, Ended}

abbrev pub word_of : Status → List ℕ
word_of Closed = codes "closed"
word_of Ready = codes "ready"
word_of Waiting = codes "waiting"
word_of Ended = codes "ended"
