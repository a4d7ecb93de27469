-- Protection, whole.
use Rattle.protection.specs.Protection.{Protected}
use Rattle.protection.proofs.Alone.{own_calls, own_calls_to_end}
use Rattle.protection.proofs.Confining.{confined, confined_run}
use Rattle.protection.proofs.Witness.{met}

pub protected : Protected
protected = record { own_calls = own_calls; own_calls_to_end = own_calls_to_end; confined = confined; confined_run = confined_run; met = met }
