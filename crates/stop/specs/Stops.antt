-- The number of each stop, 1 to 8.
use Rattle.std.specs.Prelude.{ℕ}
use Rattle.stop.specs.declared.Trap.{Trap}
use Rattle.stop.specs.declared.Trap.TheVariants.{Halt, SystemCall, Breakpoint}
use Rattle.stop.specs.declared.Fault.{Fault}
use Rattle.stop.specs.declared.Fault.TheVariants.{Privileged, NoAccess, NoWriting, NotCarried}
use Rattle.stop.specs.declared.Stop.{Stop}
use Rattle.stop.specs.declared.Stop.TheVariants.{Limit, Trapped, Faulted}

abbrev pub trap_number : Trap → ℕ
trap_number Halt = 2
trap_number SystemCall = 3
trap_number Breakpoint = 4

abbrev pub fault_number : Fault → ℕ
fault_number Privileged = 5
fault_number NoAccess = 6
fault_number NoWriting = 7
fault_number NotCarried = 8

abbrev pub number_of : Stop → ℕ
number_of Limit = 1
number_of (Trapped t) = trap_number t
number_of (Faulted f) = fault_number f
