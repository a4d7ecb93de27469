use Rattle.std.proofs.Common.{length}
use Rattle.script.proofs.fields.Fields.take_bytes.Given as goal

abbrev pub decreases-loop-word : goal.decreases-loop-word
decreases-loop-word l = length l.self.rest.now
