use Rattle.std.proofs.Common.{refl}
use Rattle.registers.specs.Stacks.{no_stack}
use Rattle.registers.proofs.SameStack.{same_stack}
use Rattle.registers.proofs.stack.Stack.empty.Goals as goal

pub returns : goal.returns
returns c = same_stack _ no_stack refl refl
