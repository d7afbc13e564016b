use Rattle.std.proofs.Common.{◌≡◌, rules}
use Rattle.credential.specs.Refusals.{answered}
use Rattle.credential.specs.Credentials.{credential_of}
use Rattle.credential.proofs.Building.{made_has}
use Rattle.credential.proofs.credentials.Credential.new.Goals as goal

pub returns : goal.returns
returns c =
    let value : answered c.build.result ≡ credential_of c.args.letter c.args.fields = search rules in
    record { value = value; has = made_has c.args.letter c.args.fields c.build.result (search rules) value }
