use Rattle.std.proofs.Common.{length, refl, ◌∙◌, arith, rules}
use Rattle.std.proofs.lemmas.Slice.{put_mid-paste}
use Rattle.std.proofs.lemmas.List.Edits.{paste_all}
use Rattle.boards.proofs.Boards.{none_placed}
use Rattle.boards.proofs.fills.place.Goals as goal

pub returns-then-not-is_empty : goal.returns-then-not-is_empty
returns-then-not-is_empty c =
    let bytes = c.args.bytes.now in
    put_mid-paste c.args.at _ _ _ bytes (length bytes) c.copy_from_slice.ensures.after (omega arith) refl
    ∙ paste_all c.args.buffer.now c.args.at bytes (length bytes) refl

-- no bytes, so nothing was put
pub returns-else-not-is_empty : goal.returns-else-not-is_empty
returns-else-not-is_empty c = none_placed c.args.buffer.now c.args.at c.args.bytes.now (search rules)
