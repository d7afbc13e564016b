use Rattle.std.proofs.Common.{vec_items, refl, arith}
use Rattle.vault.proofs.Balance.{full_book}
use Rattle.vault.proofs.Found.{found, not_open, settled}
use Rattle.vault.proofs.book.Book.settle.Goals as goal

pub returns-in_err-i : goal.returns-in_err-i
returns-in_err-i c = rw c.from_residual.ensures (found (vec_items c.args.self.now.records) c.args.serial c.args.state _ c.in_err-i.ensures, refl)

pub index-requires : goal.index-requires
index-requires c =
    omega (arith, (found (vec_items c.args.self.now.records) c.args.serial c.args.state _ c.in_ok-i.ensures).1.0.0, full_book c.args.self.now, c.args.self.now.full)

pub turn-requires : goal.turn-requires
turn-requires c =
    omega (arith, (found (vec_items c.args.self.now.records) c.args.serial c.args.state _ c.in_ok-i.ensures).1.0.0, full_book c.args.self.now)

pub returns-in_err-lease : goal.returns-in_err-lease
returns-in_err-lease c =
    absurd (not_open (vec_items c.args.self.now.records) c.args.serial c.args.state c.in_ok-i.i c.index.result.now c.in_ok-i.ensures c.index.ensures c.in_err-lease.ensures)

pub returns : goal.returns
returns c =
    settled (vec_items c.args.self.now.records) c.args.serial c.args.state c.in_ok-i.i c.index.result.now c.in_ok-i.ensures c.index.ensures c.in_ok-lease.lease c.args.call _ c.in_ok-lease.ensures c.turn.ensures.after
