-- Whether a credential stands in a list.
use Rattle.std.specs.Prelude.{Bool, List}
use Rattle.std.specs.List.{list_any}
use Rattle.credential.specs.declared.credentials.Credential.{Credential}
use Rattle.credential.specs.contracts.credentials.CredentialPartialEq.TheImpl as Credentials

-- what `==` answers of two credentials
abbrev pub same : Credential → Credential → Bool
same c d = Credentials.ghosts.eq c d

-- whether c stands in a list
abbrev pub stands : List Credential → Credential → Bool
stands xs c = list_any (λ x. same x c) xs
