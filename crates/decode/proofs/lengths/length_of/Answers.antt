use Rattle.std.proofs.Common.{arith}
use Rattle.registers.proofs.Table.{tabled}
use Rattle.decode.specs.Lengths.{length_of}
use Rattle.decode.proofs.lengths.length_of.Goals as goal

pub returns : goal.returns
returns c = tabled c.lengths.result.now length_of 256 c.lengths.ensures c.args.op (omega arith)
