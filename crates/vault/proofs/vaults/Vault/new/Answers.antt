use Rattle.std.proofs.Common.{sym, refl, subst, arith}
use Rattle.history.specs.Events.{Making}
use Rattle.history.specs.Contents.{Keeps}
use Rattle.history.proofs.Keeping.{making_keeps}
use Rattle.vault.proofs.vaults.Vault.new.Goals as goal

pub returns : goal.returns
returns g c =
    let most = c.most-capacity.ensures in
    let k : Making = record {
      kind = g.K.VaultKind.kind;
      vault = c.args.number;
      capacity = g.R.Register.CAPACITY;
      list = g.R.Source.list c.args.register;
      numbered = omega (arith, c.ranges.number.fits);
      some_room = omega (arith, most.value, most.some);
      most_room = omega (arith, most.value, most.few);
      fits = most.within;
    } in
    let e = c.in_ok-ledger.ensures in
    let n = c.in_ok-kept.ensures in
    (k, refl, refl, refl, refl, subst (Keeps k _) (λ j. record { kind = k.kind; number = k.vault; capacity = k.capacity; list = k.list; kept = sym n j; figures = (sym e j).figures; book = (sym e j).book }) (making_keeps k))
