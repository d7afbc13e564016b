use Rattle.history.proofs.Leases.{balances, serials_rise}
use Rattle.history.proofs.Limits.{limits_kept}
use Rattle.history.proofs.counts_hold.Goals as goal

pub returns : goal.returns
returns c = record { balances = balances; serials = serials_rise; limits = limits_kept }
