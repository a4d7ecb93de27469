use Rattle.std.proofs.Common.{rules, refl}
use Rattle.model.specs.Calls.{replies}
use Rattle.desk.proofs.Keeping.{missing, receipt_kept, receipt_accepted}
use Rattle.desk.proofs.desk.Desk.reply.Goals as goal

pub returns-in_err-receipt-clause-world : goal.returns-in_err-receipt-clause-world
returns-in_err-receipt-clause-world c = missing (λ k. replies k c.args.registers) c.args.self.now c.args.job c.args.number (λ w. refl) (search rules)

pub invariant_of-self-2 : goal.invariant_of-self-2
invariant_of-self-2 c = record {
  kept = receipt_kept (λ k. replies k c.args.registers) c.args.self.now c.args.job c.args.number (λ w. refl) c.reply.new.self.jobs c.in_ok-receipt.receipt c.reply.result (search rules) c.reply.ensures.world
      c.take.new.self.receipts refl (search rules);
}

pub unwrap-requires : goal.unwrap-requires
unwrap-requires c =
    receipt_accepted (λ k. replies k c.args.registers) c.args.self.now c.args.job c.args.number (λ w. refl) c.reply.new.self.jobs c.in_ok-receipt.receipt c.reply.result (search rules) c.reply.ensures.world refl
