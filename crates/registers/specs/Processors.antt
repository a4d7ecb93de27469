-- The state of the processor, and its parts that an instruction changes.
use Rattle.std.specs.Prelude.{ℕ, Bool, false}
use Rattle.registers.specs.declared.bank.Bank.{Bank}
use Rattle.registers.specs.declared.bank.Flags.{Flags}
use Rattle.registers.specs.declared.stack.Stack.{Stack}
use Rattle.registers.specs.declared.processor.Processor.{Processor}
use Rattle.registers.specs.declared.processor.Mode.{Mode}
use Rattle.registers.specs.declared.processor.Mode.TheVariants.{Alpha, Beta}
use Rattle.registers.specs.Stacks.{no_stack}

abbrev pub no_flags : Flags
no_flags = record { carry = false; zero = false; sign = false; parity = false }

abbrev pub no_bank : Bank
no_bank = record { a = 0; b = 0; c = 0; d = 0; e = 0; h = 0; l = 0; x = 0; flags = no_flags }

-- All zero, in Alpha mode, with P at the start.
abbrev pub reset_at : ℕ → Processor
reset_at start = record { alpha = no_bank; beta = no_bank; mode = Alpha; p = start; interrupts = false; stack = no_stack }

-- The first in Alpha mode, the second in Beta mode.
abbrev pub chosen : Mode → Bank → Bank → Bank
chosen Alpha a b = a
chosen Beta a b = b

-- The bank in use.
abbrev pub bank_of : Processor → Bank
bank_of c = chosen c.mode c.alpha c.beta

-- With `k` for the bank in use.
abbrev pub with_bank : Processor → Bank → Processor
with_bank c k =
    record {
      alpha = chosen c.mode k c.alpha;
      beta = chosen c.mode c.beta k;
      mode = c.mode;
      p = c.p;
      interrupts = c.interrupts;
      stack = c.stack;
    }

abbrev pub with_p : Processor → ℕ → Processor
with_p c p = record { alpha = c.alpha; beta = c.beta; mode = c.mode; p = p; interrupts = c.interrupts; stack = c.stack }

abbrev pub with_stack : Processor → Stack → Processor
with_stack c s = record { alpha = c.alpha; beta = c.beta; mode = c.mode; p = c.p; interrupts = c.interrupts; stack = s }

abbrev pub with_interrupts : Processor → Bool → Processor
with_interrupts c b = record { alpha = c.alpha; beta = c.beta; mode = c.mode; p = c.p; interrupts = b; stack = c.stack }

abbrev pub with_mode : Processor → Mode → Processor
with_mode c m = record { alpha = c.alpha; beta = c.beta; mode = m; p = c.p; interrupts = c.interrupts; stack = c.stack }
