use Rattle.std.proofs.Common.{vec_items}
use Rattle.vault.proofs.Found.{has_found}
use Rattle.vault.proofs.ledger.Ledger.has.Goals as goal

pub returns : goal.returns
returns c = rw c.is_some.ensures (has_found (vec_items c.args.self.now.book.records) c.args.serial c.args.state _ c.find.ensures)
