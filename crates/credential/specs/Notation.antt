-- The plain notation of roles, credentials and refusals.
use Rattle.std.specs.Prelude.{ℕ, List, ◌++◌, codes, decimal}
use Rattle.credential.specs.declared.refusals.Refusal.{Refusal}
use Rattle.credential.specs.declared.roles.Role.{Role}
use Rattle.credential.specs.declared.memberships.Membership.{Membership}
use Rattle.credential.specs.declared.credentials.Credential.{Credential}
use Rattle.credential.specs.declared.credentials.Credential.TheVariants.{Member, Inclusion, Linked, Intersection, Exclusion}
use Rattle.credential.specs.Refusals.{named, number_in, words_in}

-- `1.3`
abbrev pub role_text : Role → List ℕ
role_text r = decimal r.owner.number ++ (codes "." ++ decimal r.name.number)

-- `4 in 1.3`
abbrev pub membership_text : Membership → List ℕ
membership_text m = decimal m.member.number ++ (codes " in " ++ role_text m.role)

-- `1.1 <- 4`, `1.1 <- 2.1`, `1.1 <- 1.2.3`, `1.1 <- 2.1 & 3.1` and `1.1 <- 2.1 - 3.1`
abbrev pub credential_text : Credential → List ℕ
credential_text (Member h d) = role_text h ++ (codes " <- " ++ decimal d.number)
credential_text (Inclusion h f) = role_text h ++ (codes " <- " ++ role_text f)
credential_text (Linked h s t) =
    role_text h ++ (codes " <- " ++ (decimal h.owner.number ++ (codes "." ++ (decimal s.number ++ (codes "." ++ decimal t.number)))))
credential_text (Intersection h f g) = role_text h ++ (codes " <- " ++ (role_text f ++ (codes " & " ++ role_text g)))
credential_text (Exclusion h f g) = role_text h ++ (codes " <- " ++ (role_text f ++ (codes " - " ++ role_text g)))

-- `refusal 7: the register is full`
abbrev pub refusal_text : Refusal → List ℕ
refusal_text e = codes "refusal " ++ (decimal (number_in (named e)) ++ (codes ": " ++ words_in (named e)))
