use Rattle.std.proofs.Common.{◌≡◌, ◌≤◌, length, Ok, sym, ◌∙◌, ap₂, arith}
use Rattle.image.specs.Files.{blocks_from, blocks_end}
use Rattle.image.proofs.Walks.{tiles}
use Rattle.image.proofs.Judged.{accepted}
use Rattle.image.proofs.Image.read.Goals as goal

pub returns : goal.returns
returns c =
    let file = c.args.file.now in
    let whole : length file ≤ blocks_end file 22 = omega arith in
    let end : blocks_end file 22 ≡ length file = omega arith in
    record {
      answer =
          ap₂ (λ x y. Ok (record { table = x; start = y; blocks = blocks_from file 22 })) c.copy_from_slice.ensures.after c.from_be_bytes-start.ensures
          ∙ sym (accepted file c.if-file-gt16384.false (sym c.begins_image.ensures ∙ c.if-not-begins_image.false) c.if-file-lt22.false whole);
      tiled = tiles (length file) file 22 end;
    }
