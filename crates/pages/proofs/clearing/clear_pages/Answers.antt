use Rattle.std.proofs.Common.{◌≡◌, ◌<◌, slice_index, sym, ap, ◌∙◌, arith}
use Rattle.std.proofs.lemmas.Bool.{and_left, and_right}
use Rattle.memory.specs.Memories.{Mem}
use Rattle.std.proofs.lemmas.Bool.Decides.{nat_tests}
use Rattle.table.specs.Tables.{entry_of, access_in}
use Rattle.pages.specs.Held.{zeroed}
use Rattle.pages.proofs.Clears.{with_bytes, zeroed_none, zeroed_back, turn_clears, turn_leaves}
use Rattle.pages.proofs.clearing.clear_pages.Goals as goal
use Rattle.pages.proofs.clearing.clear_pages.Goals.{then-access+then-takes_writes, else-access, else-access-via-then-access+else-takes_writes, else-access-via-else-access}

pub loop-bits-init : goal.loop-bits-init
loop-bits-init g c =
    let m : Mem = g.M.Memory.mem c.args.memory.now in
    ap (with_bytes m) (sym (zeroed_none c.args.table.now m))

pub loop-bits-preserved : goal.loop-bits-preserved
loop-bits-preserved g c =
    let m : Mem = g.M.Memory.mem c.args.memory.now in
    let m₁ : Mem = g.M.Memory.mem c.loop-bits.memory in
    let e = slice_index c.args.table.now c.loop-bits.bits-index in
    let is : e ≡ entry_of c.args.table.now c.loop-bits.bits-index = let low : c.loop-bits.bits-index < 15 = omega arith in grind (arith, nat_tests) in
    let p = c.page-page.result.number in
    let leaves = turn_leaves c.loop-bits.bits-index e p c.args.table.now m m₁ is c.page-page.ensures c.loop-bits.invariant in
    elim c.if-access.branch [
      | then-access+then-takes_writes w ↦
          ap g.M.Memory.mem w.memory-is
          ∙ turn_clears c.loop-bits.bits-index e p c.args.table.now m m₁ is c.page-page.ensures c.loop-bits.invariant
          (g.M.Memory.mem w.clear_page.new.memory) (sym c.access.ensures ∙ w.if-access.true) (sym w.takes_writes.ensures ∙ w.if-takes_writes.true) w.clear_page.ensures
      | else-access w ↦
          ap g.M.Memory.mem w.memory-is
          ∙ elim w.else-access.branch [
            | else-access-via-then-access+else-takes_writes v ↦ leaves (and_right (access_in e) (m₁.takes p) (sym v.takes_writes.ensures ∙ v.if-takes_writes.false))
            | else-access-via-else-access v ↦ leaves (and_left (access_in e) (m₁.takes p) (sym c.access.ensures ∙ v.if-access.false))
          ]
    ]

pub returns : goal.returns
returns g c =
    let m : Mem = g.M.Memory.mem c.args.memory.now in
    let t = c.args.table.now in
    let end : c.loop-bits.bits-index ≡ 15 = omega arith in
    c.loop-bits.invariant ∙ ap (λ n. with_bytes m (zeroed n t m)) end ∙ ap (with_bytes m) (zeroed_back t m)
