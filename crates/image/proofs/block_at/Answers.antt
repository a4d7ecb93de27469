use Rattle.std.proofs.Common.{◌<◌, length, sym, subst, ⊎_elim, arith}
use Rattle.image.specs.Parts.{Stands}
use Rattle.image.proofs.Header.{none_past, none_short, none_at, some_at}
use Rattle.image.proofs.Walks.{heads, ends}
use Rattle.image.proofs.block_at.Goals as goal

pub returns-in_err-get : goal.returns-in_err-get
returns-in_err-get c =
    let over : length c.args.file.now < c.args.offset = ⊎_elim (λ h. h) (λ h. absurd (omega arith)) c.in_err-get.ensures.lookup.0 in
    subst (λ x. Stands x c.args.file.now c.args.offset) (sym c.from_residual.ensures)
    (ends c.args.file.now c.args.offset (none_past c.args.file.now c.args.offset over))

pub returns-in_default : goal.returns-in_default
returns-in_default c =
    let at = c.in_ok-get.ensures.lookup.0 in
    ends c.args.file.now c.args.offset
    (none_short c.args.file.now c.args.offset c.in_ok-get.field-0.now at.2 at.3 c.in_default.len_below)

pub returns-in_err-get-2 : goal.returns-in_err-get-2
returns-in_err-get-2 c =
    let at = c.in_ok-get.ensures.lookup.0 in
    let over = ⊎_elim (λ h. absurd (omega arith)) (λ h. h) c.in_err-get-2.ensures.lookup.0 in
    subst (λ x. Stands x c.args.file.now c.args.offset) (sym c.from_residual-in_err-get-2.ensures)
    (ends c.args.file.now c.args.offset
    (none_at c.args.file.now c.args.offset c.in_ok-get.field-0.now at.2 at.3 c.from_be_bytes-size.result c.from_be_bytes-size.ensures over))

pub returns : goal.returns
returns c =
    let at = c.in_ok-get.ensures.lookup.0 in
    let bytes = c.in_ok-get-2.ensures.lookup.0 in
    heads c.args.file.now c.args.offset _
    (some_at c.args.file.now c.args.offset c.in_ok-get.field-0.now at.2 at.3 c.from_be_bytes-address.result c.from_be_bytes-size.result _
    c.from_be_bytes-address.ensures c.from_be_bytes-size.ensures c.in-len4-up.len_at_least bytes.1 bytes.2)
