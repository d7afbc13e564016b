use Rattle.std.proofs.Common.{◌<◌, length, vec_items, arith}
use Rattle.vault.proofs.Finding.{one_turned}
use Rattle.vault.proofs.book.Book.turn.Goals as goal

pub returns-clause-after : goal.returns-clause-after
returns-clause-after c =
    let h : c.args.i < length (vec_items c.args.self.now.records) = omega (arith, c.requires, c.args.self.now.full, c.args.self.now.records.ok.0) in
    one_turned (vec_items c.args.self.now.records) c.args.i c.record_at.result.now c.turn.new.self c.args.call h c.record_at.ensures.value c.turn.ensures.after
