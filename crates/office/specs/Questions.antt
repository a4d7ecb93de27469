-- What a program's registers say, and what a reply puts into them.
use Rattle.std.specs.Prelude.{ℕ, cond, Some, None, Option, ◌==◌}
use Rattle.registers.specs.declared.bank.Bank.{Bank}
use Rattle.model.specs.declared.job.Registers.{Registers}
use Rattle.office.specs.declared.question.Question.{Question}
use Rattle.office.specs.declared.question.Question.TheVariants.{Next, Delivers, Unknown}
use Rattle.office.specs.declared.question.Shipment.{Shipment}
use Rattle.office.specs.Charges.{charge_of}

abbrev pub question_of : Bank → Question
question_of k =
    cond (k.a == 1) Next (cond (k.a == 2) (Delivers (charge_of k.b k.c k.d)) (Unknown k.a))

abbrev pub plain_reply : ℕ → ℕ → Registers
plain_reply b c = record { a = 0; b = b; c = c; d = 0; e = 0; h = 0; l = 0; x = 0 }

-- 255 in B is 377 in octal: there is no more.
abbrev pub shipment_reply : Option Shipment → Registers
shipment_reply (Some s) = plain_reply s.zone s.weight
shipment_reply None = plain_reply 255 0
