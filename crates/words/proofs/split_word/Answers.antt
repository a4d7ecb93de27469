use Rattle.std.proofs.lemmas.List.Sums.{prefix_len-le-length}
use Rattle.words.proofs.split_word.Goals as goal

pub split_at-requires : goal.split_at-requires
split_at-requires c = rw c.gap_length-gap.ensures (prefix_len-le-length _ _)

pub split_at-requires-2 : goal.split_at-requires-2
split_at-requires-2 c = rw c.word_length-end.ensures (prefix_len-le-length _ _)
