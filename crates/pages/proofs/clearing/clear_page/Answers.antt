use Rattle.std.proofs.Common.{◌≡◌, ◌+◌, ◌*◌, sym, ap, ◌∙◌, arith}
use Rattle.memory.specs.Memories.{Mem, put}
use Rattle.pages.specs.Held.{zeroed_page}
use Rattle.pages.proofs.Clears.{page_none, page_more, with_bytes}
use Rattle.pages.proofs.clearing.clear_page.Goals as goal

pub loop-i-init : goal.loop-i-init
loop-i-init g c =
    let m : Mem = g.M.Memory.mem c.args.memory.now in
    ap (with_bytes m) (sym (page_none c.args.page.number m.byte))

pub loop-i-preserved : goal.loop-i-preserved
loop-i-preserved g c =
    let m : Mem = g.M.Memory.mem c.args.memory.now in
    let p = c.args.page.number in
    let i = c.loop-i.i in
    let e : c.address.result ≡ p * 4096 + i = c.address.ensures ∙ omega arith in
    c.set_byte.ensures
    ∙ ap (λ (n : Mem). with_bytes n (put n.byte c.address.result 0)) c.loop-i.invariant
    ∙ ap (λ a. with_bytes m (put (zeroed_page p i m.byte) a 0)) e
    ∙ ap (with_bytes m) (page_more p i m.byte (omega arith))
