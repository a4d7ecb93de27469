use Rattle.std.proofs.Common.{arith}
use Rattle.boards.proofs.Boards.{stored_set}
use Rattle.boards.proofs.board.Board.put.Goals as goal

pub returns-clause-after : goal.returns-clause-after
returns-clause-after g c =
    stored_set g.row.PAGES c.args.self.now.lower.now c.args.self.now.upper.now c.args.self.now.sealed.mask c.args.at c.args.b (omega arith) c.requires
