use Rattle.std.proofs.Common.{◌≡◌, vec_items, count_by, sym, ◌∙◌, rules}
use Rattle.std.proofs.iter.runs.Made.{chains}
use Rattle.vault.specs.Entries.{entry, open_lease, is_for}
use Rattle.vault.proofs.Finding.{counted}
use Rattle.vault.proofs.book.Book.open_of.Goals as goal

pub returns-clause-value : goal.returns-clause-value
returns-clause-value c =
    let n : c.count.result ≡ count_by (λ r. is_for c.args.name.number (open_lease (entry r))) (vec_items c.args.self.now.records) = search (rules, chains) in
    n ∙ sym (counted c.args.name.number (vec_items c.args.self.now.records))
