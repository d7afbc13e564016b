use Rattle.vault.specs.Books.{entries}
use Rattle.vault.specs.Entries.{lease}
use Rattle.vault.specs.Balance.{in_lists}
use Rattle.vault.specs.Ledgers.{posted}
use Rattle.vault.proofs.Balance.{settled_draw}
use Rattle.vault.proofs.ledger.Ledger.draw.Goals as goal

pub invariant_of-self : goal.invariant_of-self
invariant_of-self c =
    let was = c.args.self.now in
    record { few = was.few; balanced = settled_draw (in_lists was.given was.figures) (entries was.book) (entries c.settle.new.self) 0 was.balanced c.args.serial c.settle.result c.settle.ensures }

pub returns : goal.returns
returns c =
    let s = c.in-Some.ensures in
    (s.0, lease c.in-Some._lease, s.1, λ j. record { figures = (posted c.args.self.now).figures; book = s.2 j })
