use Rattle.vault.specs.Books.{entries}
use Rattle.vault.proofs.Balance.{figures_few}
use Rattle.vault.proofs.ledger.Ledger.tally.Goals as goal

pub invariant_of-result : goal.invariant_of-result
invariant_of-result c =
    let f = figures_few c.args.self.now.given c.args.self.now.figures (entries c.args.self.now.book) c.args.index c.args.self.now.balanced c.args.self.now.few c.requires in
    record { given_few = f.0; declined_few = f.1; handed_back_few = f.2; open_few = c.open_of.ensures.few }
