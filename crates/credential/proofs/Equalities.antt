-- `==` decides which entities, role names, roles, memberships and credentials are equal.
use Rattle.std.proofs.Common.{◌≡◌, rules, Decides, ℕ, sym, ap}
use Rattle.std.proofs.Math.Bool.{true≢false}
use Rattle.std.proofs.lemmas.Bool.Decides.{Decides-and, Decides-like}
use Rattle.std.specs.Prelude.{nat_eq, ◌&&◌}
use Rattle.std.specs.Cmp.{unsigned_Decides}
use Rattle.credential.specs.declared.numbers.Number.{Number}
use Rattle.credential.specs.declared.roles.Role.{Role}
use Rattle.credential.specs.declared.memberships.Membership.{Membership}
use Rattle.credential.specs.declared.credentials.Credential.TheVariants.{Member, Inclusion, Linked, Intersection, Exclusion}
use Rattle.credential.specs.contracts.credentials.CredentialPartialEq.TheImpl as Credentials
use Rattle.credential.specs.Equality.{EqualityDecides}
use Rattle.credential.proofs.Ranges.{number_path}

pub number_eq : {most : ℕ} → EqualityDecides (λ (a b : Number most). nat_eq a.number b.number)
number_eq {most} a b = Decides-like _ (number_path a b) (ap (λ (x : Number most). x.number)) (unsigned_Decides a.number b.number)

-- a role by its owner and its name
pub role_eq : EqualityDecides (λ (a b : Role). nat_eq a.owner.number b.owner.number && nat_eq a.name.number b.name.number)
role_eq a b =
    Decides-like _ (λ h. λ i. record { owner = h.0 i; name = h.1 i }) (λ p. (ap (λ (x : Role). x.owner) p, ap (λ (x : Role). x.name) p))
    (Decides-and _ _ (number_eq a.owner b.owner) (number_eq a.name b.name))

pub membership_eq : EqualityDecides (λ (a b : Membership). (nat_eq a.role.owner.number b.role.owner.number && nat_eq a.role.name.number b.role.name.number) && nat_eq a.member.number b.member.number)
membership_eq a b =
    Decides-like _ (λ h. λ i. record { role = h.0 i; member = h.1 i }) (λ p. (ap (λ (x : Membership). x.role) p, ap (λ (x : Membership). x.member) p))
    (Decides-and _ _ (role_eq a.role b.role) (number_eq a.member b.member))

-- exclusions by all their roles, also the one that is excluded
exclusion_eq : (h k f i g j : Role) → Decides (Credentials.ghosts.eq (Exclusion h f g) (Exclusion k i j)) ((h ≡ k) × ((f ≡ i) × (g ≡ j)))
exclusion_eq h k f i g j = search (rules, Decides-and, role_eq)

-- credentials of two letters differ
pub credential_eq : EqualityDecides Credentials.ghosts.eq
credential_eq (Member h d) (Member k e) =
    Decides-like _ (λ q. λ i. Member (q.0 i) (q.1 i)) (λ p. (cc, cc)) (Decides-and _ _ (role_eq h k) (number_eq d e))
credential_eq (Inclusion h f) (Inclusion k g) =
    Decides-like _ (λ q. λ i. Inclusion (q.0 i) (q.1 i)) (λ p. (cc, cc)) (Decides-and _ _ (role_eq h k) (role_eq f g))
credential_eq (Linked h s t) (Linked k u v) =
    Decides-like _ (λ q. λ i. Linked (q.0 i) (q.1.0 i) (q.1.1 i)) (λ p. (cc, (cc, cc)))
    (Decides-and _ _ (role_eq h k) (Decides-and _ _ (number_eq s u) (number_eq t v)))
credential_eq (Intersection h f g) (Intersection k i j) =
    Decides-like _ (λ q. λ z. Intersection (q.0 z) (q.1.0 z) (q.1.1 z)) (λ p. (cc, (cc, cc)))
    (Decides-and _ _ (role_eq h k) (Decides-and _ _ (role_eq f i) (role_eq g j)))
credential_eq (Exclusion h f g) (Exclusion k i j) =
    Decides-like _ (λ q. λ z. Exclusion (q.0 z) (q.1.0 z) (q.1.1 z)) (λ p. (cc, (cc, cc)))
    (exclusion_eq h k f i g j)
credential_eq _ _ = (λ e. absurd (true≢false (sym e)), λ p. cc)
