use Rattle.std.proofs.Common.{Result, ap}
use Rattle.std.proofs.lemmas.Result.{err_from_is_err_and}
use Rattle.credential.specs.declared.refusals.Refusal.{Refusal}
use Rattle.credential.specs.Refusals.{answered, named}
use Rattle.vault.proofs.Happening.{publish_taken, publish-refused}
use Rattle.vault.proofs.vaults.Vault.publish.Goals as goal

pub returns-in_err-publish : goal.returns-in_err-publish
returns-in_err-publish g c =
    let p = err_from_is_err_and c.from_residual.result c.from_residual.ensures.1 in
    rw (p.1, p.2, ← c.self.view_is)
    (publish-refused _ c.args.credential (answered c.publish.result) (g.R.Source.list c.publish.new.self) c.publish.ensures.answer c.publish.ensures.list (named c.in_err-publish.field-0.0) (ap (λ (r : Result (Unit {0}) Refusal). answered r) c.in_err-publish.was))

pub returns : goal.returns
returns g c =
    rw (← c.self.view_is)
    (publish_taken _ c.args.credential (answered c.publish.result) (g.R.Source.list c.publish.new.self) c.publish.ensures.answer c.publish.ensures.list _ c.forget.ensures (ap (λ (r : Result (Unit {0}) Refusal). answered r) c.in_ok-publish.was) c.publish.ensures.within)
