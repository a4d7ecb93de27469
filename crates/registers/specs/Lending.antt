-- The bank in use, lent: what is left behind it takes its place.
use Rattle.std.specs.Borrow.{Lends, MutBor, Fml}
use Rattle.registers.specs.declared.bank.Bank.{Bank}
use Rattle.registers.specs.declared.processor.Processor.{Processor}
use Rattle.registers.specs.contracts.processor.Processor.{the_row}
use Rattle.registers.specs.contracts.bank.Bank as bank
use Rattle.registers.specs.Processors.{with_bank}

abbrev pub LendsBank : MutBor Processor → MutBor Bank → Fml
LendsBank s r = Lends the_row bank.the_row s r (with_bank s.now)
