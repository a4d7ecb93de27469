use Rattle.std.proofs.Common.{◌≡◌, ℕ, ◌<◌, length, arith}
use Rattle.space.specs.Cells.{Cells}
use Rattle.pages.specs.Held.{shown}
use Rattle.pages.proofs.Seen.{shows_more, shows_all}
use Rattle.pages.proofs.sight.Sight.show.Goals as goal

pub loop-i-preserved : goal.loop-i-preserved
loop-i-preserved g c =
    let s : Cells = shown c.args.self.now.table.now (g.M.Memory.mem c.args.self.now.memory.now) in
    let low : c.loop-i.i < length c.loop-i.out = omega arith in
    shows_more c.loop-i.i c.loop-i.out c.args.at c.byte_at.result s low c.byte_at.ensures c.loop-i.invariant

pub returns : goal.returns
returns g c =
    let s : Cells = shown c.args.self.now.table.now (g.M.Memory.mem c.args.self.now.memory.now) in
    let n : ℕ = length c.args.out.now in
    let same : length c.loop-i.out ≡ n = omega arith in
    let end : c.loop-i.i ≡ n = omega arith in
    shows_all c.loop-i.out n c.args.at s same (λ k l d. c.loop-i.invariant k (omega arith) d)
