use Rattle.std.proofs.Common.{◌≡◌, ℕ, ◌+◌, ◌*◌, ◌/◌, ◌%◌, ap, ◌∙◌, arith}
use Rattle.memory.specs.Memories.{Mem}
use Rattle.table.specs.Tables.{entry_of, page_in, physical}
use Rattle.pages.specs.Held.{Table, shown}
use Rattle.pages.proofs.Lays.{Accepted, accepted, lay_none, lay_takes, lay_more, lay_over}
use Rattle.pages.proofs.loading.lay.Goals as goal

-- Where the next byte goes.
place : (t : Table) (a e p r : ℕ) → e ≡ entry_of t (a / 4096) → p ≡ page_in e → r ≡ p * 4096 + a % 4096 → r ≡ physical t a
place t a e p r ee ep er = er ∙ ap (λ x. x * 4096 + a % 4096) (ep ∙ ap page_in ee)

pub loop-i-init : goal.loop-i-init
loop-i-init g c = lay_none _ _ _ _

pub set_byte-requires : goal.set_byte-requires
set_byte-requires g c =
    let m : Mem = g.M.Memory.mem c.args.memory.now in
    let t = c.args.table.entries in
    let fine : Accepted c.args.at c.args.bytes.now (shown t m) = accepted c.args.at c.args.bytes.now (shown t m) c.requires in
    lay_takes t c.args.table.apart c.args.at c.args.bytes.now m fine c.loop-i.i _ c.loop-i.invariant c.address.result c.loop-i-test.true
    (place t (c.args.at + c.loop-i.i) c.entry_of-entry.result.bits c.page.result.number c.address.result c.entry_of-entry.ensures c.page.ensures c.address.ensures)

pub loop-i-preserved : goal.loop-i-preserved
loop-i-preserved g c =
    let m : Mem = g.M.Memory.mem c.args.memory.now in
    let t = c.args.table.entries in
    let fine : Accepted c.args.at c.args.bytes.now (shown t m) = accepted c.args.at c.args.bytes.now (shown t m) c.requires in
    lay_more t c.args.table.apart c.args.at c.args.bytes.now m fine c.loop-i.i (g.M.Memory.mem c.loop-i.memory) c.loop-i.invariant c.address.result
    (g.M.Memory.mem c.set_byte.new.memory) c.loop-i-test.true
    (place t (c.args.at + c.loop-i.i) c.entry_of-entry.result.bits c.page.result.number c.address.result c.entry_of-entry.ensures c.page.ensures c.address.ensures)
    c.set_byte.ensures

pub returns : goal.returns
returns g c =
    let m : Mem = g.M.Memory.mem c.args.memory.now in
    let t = c.args.table.entries in
    let fine : Accepted c.args.at c.args.bytes.now (shown t m) = accepted c.args.at c.args.bytes.now (shown t m) c.requires in
    lay_over t c.args.table.apart c.args.at c.args.bytes.now m fine c.loop-i.i (g.M.Memory.mem c.loop-i.memory) c.loop-i.invariant (omega arith)
