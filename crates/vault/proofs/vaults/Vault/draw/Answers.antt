use Rattle.std.proofs.Common.{Ok, Err, rules}
use Rattle.std.proofs.lemmas.Result.{err_from_is_err_and}
use Rattle.vault.proofs.Turning.{draw_settles}
use Rattle.vault.proofs.vaults.Vault.draw.Goals as goal

pub returns-in_err-slip : goal.returns-in_err-slip
returns-in_err-slip g c =
    let p = err_from_is_err_and c.from_residual.result c.from_residual.ensures.1 in
    let e = c.in_err-slip.ensures in
    rw (p.1, p.2) (record {
      happened = draw_settles c.args.self.now c.settle.new.self c.args.slip _ (Err c.in_err-slip.field-0.0) e (λ l a m q. search rules);
      given = tt;
      back = e.0;
    })

pub returns-clause-happened : goal.returns-clause-happened
returns-clause-happened g c = draw_settles c.args.self.now c.settle.new.self c.args.slip _ (Ok c.in_ok-slip.slip) c.in_ok-slip.ensures (λ l a m q. search rules)
