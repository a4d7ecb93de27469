use Rattle.std.proofs.Common.{◌+◌, ◌*◌, ◌%◌, sym, ap, ◌∙◌}
use Rattle.memory.specs.Memories.{Mem}
use Rattle.table.proofs.Places.{store_frame}
use Rattle.table.proofs.view.ViewSpace.write.Goals as goal

pub returns-clause-kept : goal.returns-clause-kept
returns-clause-kept g c =
    let m : Mem = g.M.Memory.mem c.args.self.now.memory.now in
    let m' : Mem = g.M.Memory.mem c.write.new.self in
    store_frame c.args.self.now.table.entries c.args.self.now.memory.ghost_name m m' c.args.at c.args.b c.entry-entry.result.bits c.address.result c.entry-entry.ensures
    (c.address.ensures ∙ ap (λ n. n * 4096 + c.args.at % 4096) c.page.ensures) (sym c.access.ensures ∙ c.if-not-access.false) (sym c.writing.ensures ∙ c.if-not-writing.false)
    c.write.ensures.after
