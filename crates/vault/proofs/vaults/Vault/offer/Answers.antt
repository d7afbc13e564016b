use Rattle.std.proofs.Common.{vec_items, refl}
use Rattle.std.proofs.lemmas.Result.{err_from_is_err_and}
use Rattle.credential.specs.Refusals.{named}
use Rattle.vault.specs.Ledgers.{posted}
use Rattle.vault.proofs.Turning.{offer-judged, offer_lent, offer_limited}
use Rattle.vault.proofs.vaults.Vault.offer.Goals as goal

pub returns-in_err-judge : goal.returns-in_err-judge
returns-in_err-judge g c =
    let p = err_from_is_err_and c.from_residual.result c.from_residual.ensures.1 in
    let k = c.self.inside.kept in
    rw (p.1, p.2, ← c.self.view_is) (offer-judged _ c.args.membership k.stands (vec_items k.verdicts) refl k.lawful (named c.in_err-judge.field-0.0) c.in_err-judge.ensures)

pub returns-in_err-serial : goal.returns-in_err-serial
returns-in_err-serial g c =
    let p = err_from_is_err_and c.from_residual-in_err-serial.result c.from_residual-in_err-serial.ensures.1 in
    let k = c.self.inside.kept in
    rw (p.1, p.2, ← c.self.view_is)
    (offer_limited _ c.args.membership k.stands (vec_items k.verdicts) refl c.in_ok-judge.ensures (named c.in_err-serial.field-0.0) (posted c.offer.new.self) c.in_err-serial.ensures)

pub returns : goal.returns
returns g c =
    let k = c.self.inside.kept in
    rw (← c.self.view_is)
    (offer_lent _ c.args.membership k.stands (vec_items k.verdicts) refl c.in_ok-judge.ensures c.in_ok-serial.serial (posted c.offer.new.self) c.in_ok-serial.ensures _ c.new.ensures)
