use Rattle.std.proofs.Common.{Result, ap}
use Rattle.std.proofs.lemmas.Result.{err_from_is_err_and}
use Rattle.credential.specs.declared.refusals.Refusal.{Refusal}
use Rattle.credential.specs.Refusals.{answered, named}
use Rattle.vault.proofs.Happening.{withdraw_taken, withdraw-refused}
use Rattle.vault.proofs.vaults.Vault.withdraw.Goals as goal

pub returns-in_err-withdraw : goal.returns-in_err-withdraw
returns-in_err-withdraw g c =
    let p = err_from_is_err_and c.from_residual.result c.from_residual.ensures.1 in
    rw (p.1, p.2, ← c.self.view_is)
    (withdraw-refused _ c.args.place (answered c.withdraw.result) (g.R.Source.list c.withdraw.new.self) c.withdraw.ensures.answer c.withdraw.ensures.list (named c.in_err-withdraw.field-0.0) (ap (λ (r : Result (Unit {0}) Refusal). answered r) c.in_err-withdraw.was))

pub returns : goal.returns
returns g c =
    rw (← c.self.view_is)
    (withdraw_taken _ c.args.place (answered c.withdraw.result) (g.R.Source.list c.withdraw.new.self) c.withdraw.ensures.answer c.withdraw.ensures.list _ c.forget.ensures (ap (λ (r : Result (Unit {0}) Refusal). answered r) c.in_ok-withdraw.was))
