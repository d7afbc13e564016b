use Rattle.std.proofs.Common.{◌+◌, rules, arith}
use Rattle.vault.specs.Ledgers.{posted, Tallied}
use Rattle.vault.proofs.Calls.{each_call}
use Rattle.vault.proofs.ledger.Ledger.tallies.Goals as goal

pub returns : goal.returns
returns c =
    let made = c.from_fn.ensures.items in
    (made.long, λ i d h. each_call _ (λ k t. Tallied (posted c.args.self.now) (k + 1) t) _ (λ k t q w m. (search rules, search rules)) _ 0 16 (omega arith) made.each i d (omega arith) h)
