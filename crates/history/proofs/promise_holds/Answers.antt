use Rattle.history.proofs.Promises.{promise_met, agreement_met}
use Rattle.history.proofs.Stating.{statements_fit}
use Rattle.history.proofs.promise_holds.Goals as goal

pub returns : goal.returns
returns c = record { met = promise_met; agreement = agreement_met; room = statements_fit }
