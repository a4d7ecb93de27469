use Rattle.std.proofs.Common.{rules, refl}
use Rattle.model.specs.Calls.{abandons}
use Rattle.desk.proofs.Keeping.{missing, receipt_kept, receipt_accepted}
use Rattle.desk.proofs.desk.Desk.abandon.Goals as goal

pub returns-in_err-receipt-clause-world : goal.returns-in_err-receipt-clause-world
returns-in_err-receipt-clause-world c = missing abandons c.args.self.now c.args.job c.args.number (λ w. refl) (search rules)

pub invariant_of-self-2 : goal.invariant_of-self-2
invariant_of-self-2 c = record {
  kept = receipt_kept abandons c.args.self.now c.args.job c.args.number (λ w. refl) c.abandon.new.self.jobs c.in_ok-receipt.receipt c.abandon.result (search rules) c.abandon.ensures.world
      c.take.new.self.receipts refl (search rules);
}

pub unwrap-requires : goal.unwrap-requires
unwrap-requires c =
    receipt_accepted abandons c.args.self.now c.args.job c.args.number (λ w. refl) c.abandon.new.self.jobs c.in_ok-receipt.receipt c.abandon.result (search rules) c.abandon.ensures.world refl
