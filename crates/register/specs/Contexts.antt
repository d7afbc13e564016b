-- The context of a list of credentials.
use Rattle.credential.specs.declared.credentials.Credential.{Credential}
use Rattle.credential.specs.declared.credentials.Credential.TheVariants.{Member, Inclusion, Linked, Intersection, Exclusion}

-- an exclusion as the inclusion of the role that it excludes from; any other as it is
abbrev pub included : Credential → Credential
included (Member h d) = Member h d
included (Inclusion h f) = Inclusion h f
included (Linked h s t) = Linked h s t
included (Intersection h f g) = Intersection h f g
included (Exclusion h f g) = Inclusion h f
