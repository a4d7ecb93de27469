-- An answer, with the bank and the cells then.
use Rattle.registers.specs.declared.bank.Bank.{Bank}
use Rattle.space.specs.Cells.{Cells}
use Rattle.stop.specs.declared.Fault.{Fault}
use Rattle.std.specs.Prelude.{Ok, Err, Result}

pub record After (X : Type 0) : Type 0 where
  pub answer : X
  pub bank : Bank
  pub cells : Cells

abbrev pub after : {X : Type 0} → X → Bank → Cells → After X
after x k s = record { answer = x; bank = k; cells = s }

-- The first, and then the second on what the first answered. A fault leaves the bank and the cells as they are.
abbrev pub and_then : {X Y : Type 0} → Result X Fault → Bank → Cells → (X → After (Result Y Fault)) → After (Result Y Fault)
and_then (Ok x) k s f = f x
and_then (Err e) k s f = after (Err e) k s
