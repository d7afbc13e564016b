-- The ground clauses of a membership, counted out.
use Rattle.std.proofs.Common.{◌≡◌, ℕ, zero, suc, ◌≤◌, Bool, true, false, T, eqb, ◌⊎◌, List, [], ◌∷◌, ◌++◌, sym, refl, ap, subst, inl, inr, le_refl, arith}
use mathlib.Core.Option.{none, some}
use native.Mathlib.Nat.{le_of_suc-le}
use Rattle.credential.specs.Numbers.{Entity, RoleName}
use Rattle.credential.specs.declared.roles.Role.{Role}
use Rattle.credential.specs.declared.credentials.Credential.{Credential}
use Rattle.credential.specs.declared.credentials.Credential.TheVariants.{Member, Inclusion, Linked, Intersection, Exclusion}
use Rattle.credential.specs.declared.memberships.Membership.{Membership}
use Rattle.model.specs.Clauses.{Body, of, head, Gives, Clause}
use Rattle.credential.proofs.Ranges.{number_path}
use Rattle.cases.proofs.Tests.{Settles, and_decides, eq_decides, by_iff}

abbrev pub same_entity : Entity → Entity → Bool
same_entity a b = eqb a.number b.number

pub same_entity_decides : (a b : Entity) → Settles (same_entity a b) (a ≡ b)
same_entity_decides a b = by_iff (same_entity a b) (eq_decides a.number b.number) (number_path a b) (λ e. ap (λ x. x.number) e)

abbrev pub same_role : Role → Role → Bool
same_role a b = let n = eqb a.name.number b.name.number in elim (eqb a.owner.number b.owner.number) [ true ↦ n | false ↦ false ]

pub same_role_decides : (a b : Role) → Settles (same_role a b) (a ≡ b)
same_role_decides a b =
    by_iff
    (same_role a b)
    (and_decides
    (eqb a.owner.number b.owner.number)
    (eqb a.name.number b.name.number)
    (eq_decides a.owner.number b.owner.number)
    (eq_decides a.name.number b.name.number))
    (λ h. λ i. record { owner = number_path a.owner b.owner h.0 i; name = number_path a.name b.name h.1 i })
    (λ e. (ap (λ x. x.owner.number) e, ap (λ x. x.name.number) e))

-- an element of a list
module _ {A : Type 0} where
  abbrev pub In : A → List A → Type 0
  In x [] = ⊥
  In x (y ∷ ys) = (x ≡ y) ⊎ In x ys

  pub in_left : (x : A) (xs ys : List A) → In x xs → In x (xs ++ ys)
  in_left x (y ∷ ys) zs (inl e) = inl e
  in_left x (y ∷ ys) zs (inr h) = inr (in_left x ys zs h)
  in_left x [] zs h = absurd h

  pub in_right : (x : A) (xs ys : List A) → In x ys → In x (xs ++ ys)
  in_right x [] zs h = h
  in_right x (y ∷ ys) zs h = inr (in_right x ys zs h)

  pub in_either : (x : A) (xs ys : List A) → In x (xs ++ ys) → In x xs ⊎ In x ys
  in_either x [] zs h = inr h
  in_either x (y ∷ ys) zs (inl e) = inl (inl e)
  in_either x (y ∷ ys) zs (inr h) = elim (in_either x ys zs h) [ inl k ↦ inl (inr k) | inr k ↦ inr k ]

  -- a list if the test passes
  abbrev pub only : Bool → List A → List A
  only b xs = elim b [ true ↦ xs | false ↦ [] ]

  pub only_iff : (b : Bool) (x : A) (xs : List A) → (In x (only b xs) → T b × In x xs) × (T b → In x xs → In x (only b xs))
  only_iff true x xs = (λ h. (tt, h), λ _ h. h)
  only_iff false x xs = (λ h. absurd h, λ t h. absurd t)

-- all entities
pub down : {k : ℕ} → suc k ≤ 32 → k ≤ 32
down h = le_of_suc-le h

pub one_up : (k : ℕ) → 1 ≤ suc k
one_up k = omega arith

abbrev pub entities_to : (k : ℕ) → k ≤ 32 → List Entity
entities_to zero h = []
entities_to (suc k) h = record { number = suc k; low = one_up k; high = h } ∷ entities_to k (down h)

pub thirty_two : 32 ≤ 32
thirty_two = le_refl 32

abbrev pub entities : List Entity
entities = entities_to 32 thirty_two

in_entities_to : (k : ℕ) (h : k ≤ 32) (y : Entity) → y.number ≤ k → In y (entities_to k h)
in_entities_to zero h y l = let low : 1 ≤ y.number = y.low in absurd (omega arith)
in_entities_to (suc k) h y l = go (λ b. in_entities_to k (down h) y b) (eqb y.number (suc k)) (eq_decides y.number (suc k))
  where
    go : (y.number ≤ k → In y (entities_to k (down h))) → (b : Bool) → Settles b (y.number ≡ suc k) → In y (entities_to (suc k) h)
    go ih true d = inl (number_path y (record { number = suc k; low = one_up k; high = h }) (d.0 tt))
    go ih false d = inr (ih (let ne : ¬ (y.number ≡ suc k) = d.1 in omega arith))

pub in_entities : (y : Entity) → In y entities
in_entities y = in_entities_to 32 thirty_two y y.high

-- the bodies that a credential gives
abbrev pub linked : Role → RoleName → RoleName → Entity → Entity → Body
linked h s t d y =
    record {
      positive = of (record { owner = h.owner; name = s }) y ∷ of (record { owner = y; name = t }) d ∷ [];
      negated = none;
    }

abbrev pub linked_all : Role → RoleName → RoleName → Entity → List Entity → List Body
linked_all h s t d [] = []
linked_all h s t d (y ∷ ys) = linked h s t d y ∷ linked_all h s t d ys

in_linked : (h : Role) (s t : RoleName) (d : Entity) (ys : List Entity) (y : Entity) → In y ys → In (linked h s t d y) (linked_all h s t d ys)
in_linked h s t d [] x k = absurd k
in_linked h s t d (y ∷ ys) x (inl e) = inl (ap (linked h s t d) e)
in_linked h s t d (y ∷ ys) x (inr k) = inr (in_linked h s t d ys x k)

of_linked : (h : Role) (s t : RoleName) (d : Entity) (ys : List Entity) (o : Body) → In o (linked_all h s t d ys) → (y : Entity) × (o ≡ linked h s t d y)
of_linked h s t d [] o k = absurd k
of_linked h s t d (y ∷ ys) o (inl e) = (y, e)
of_linked h s t d (y ∷ ys) o (inr k) = of_linked h s t d ys o k

abbrev pub given : Credential → Entity → List Body
given (Member h b) d = only (same_entity b d) (record { positive = []; negated = none } ∷ [])
given (Inclusion h f) d = record { positive = of f d ∷ []; negated = none } ∷ []
given (Linked h s t) d = linked_all h s t d entities
given (Intersection h f g) d = record { positive = of f d ∷ of g d ∷ []; negated = none } ∷ []
given (Exclusion h f g) d = record { positive = of f d ∷ []; negated = some (of g d) } ∷ []

-- the bodies of a membership
abbrev pub bodies : List Credential → Membership → List Body
bodies [] m = []
bodies (c ∷ cs) m =
    let here = given c m.member in
    let rest = bodies cs m in
    elim (same_role (head c) m.role) [ true ↦ here ++ rest | false ↦ rest ]

single : (x o : Body) → In o (x ∷ []) → o ≡ x
single x o (inl e) = e
single x o (inr k) = absurd k

gives : (c : Credential) (m : Membership) (o : Body) → head c ≡ m.role → In o (given c m.member) → Gives c m o
gives (Member h b) m o e k =
    let x = (only_iff (same_entity b m.member) o (record { positive = []; negated = none } ∷ [])).0 k in
    (e, (same_entity_decides b m.member).0 x.0, single (record { positive = []; negated = none }) o x.1)
gives (Inclusion h f) m o e k = (e, single (record { positive = of f m.member ∷ []; negated = none }) o k)
gives (Linked h s t) m o e k = (e, of_linked h s t m.member entities o k)
gives (Intersection h f g) m o e k = (e, single (record { positive = of f m.member ∷ of g m.member ∷ []; negated = none }) o k)
gives (Exclusion h f g) m o e k = (e, single (record { positive = of f m.member ∷ []; negated = some (of g m.member) }) o k)

given_by : (c : Credential) (m : Membership) (o : Body) → Gives c m o → (head c ≡ m.role) × In o (given c m.member)
given_by (Member h b) m o k = (
  k.0,
  (only_iff (same_entity b m.member) o (record { positive = []; negated = none } ∷ [])).1 ((same_entity_decides b m.member).1 k.1) (inl k.2),
)
given_by (Inclusion h f) m o k = (k.0, inl k.1)
given_by (Linked h s t) m o k = (
  k.0,
  subst
      (λ x. In x (linked_all h s t m.member entities))
      (sym k.1.1)
      (in_linked h s t m.member entities k.1.0 (in_entities k.1.0)),
)
given_by (Intersection h f g) m o k = (k.0, inl k.1)
given_by (Exclusion h f g) m o k = (k.0, inl k.1)

-- one more credential: its bodies come first, where its head fits
module _ (c : Credential) (cs : List Credential) (m : Membership) (o : Body) where
  abbrev Joined : Bool → Type 0
  Joined b = In o (elim b [ true ↦ given c m.member ++ bodies cs m | false ↦ bodies cs m ])

  joined : (b : Bool) → Settles b (head c ≡ m.role) → Joined b → Gives c m o ⊎ In o (bodies cs m)
  joined true d k = elim (in_either o (given c m.member) (bodies cs m) k) [ inl h ↦ inl (gives c m o (d.0 tt) h) | inr h ↦ inr h ]
  joined false d k = inr k

  join : (b : Bool) → Settles b (head c ≡ m.role) → Gives c m o ⊎ In o (bodies cs m) → Joined b
  join true d (inl g) = in_left o (given c m.member) (bodies cs m) (given_by c m o g).1
  join true d (inr h) = in_right o (given c m.member) (bodies cs m) h
  join false d (inl g) = absurd (d.1 (given_by c m o g).0)
  join false d (inr h) = h

pub clause_of : (cs : List Credential) (m : Membership) (o : Body) → In o (bodies cs m) → Clause cs m o
unfolding Clause
clause_of [] m o k = absurd k
clause_of (c ∷ cs) m o k =
    elim
    (joined c cs m o (same_role (head c) m.role) (same_role_decides (head c) m.role) k)
    [ inl g ↦ (c, inl refl, g) | inr h ↦ let x = clause_of cs m o h in (x.0, inr x.1, x.2) ]

pub of_clause : (cs : List Credential) (m : Membership) (o : Body) → Clause cs m o → In o (bodies cs m)
unfolding Clause
of_clause [] m o k = absurd k.1
of_clause (c ∷ cs) m o k =
    join
    c
    cs
    m
    o
    (same_role (head c) m.role)
    (same_role_decides (head c) m.role)
    (elim k.1 [ inl e ↦ inl (subst (λ x. Gives x m o) e k.2) | inr a ↦ inr (of_clause cs m o (k.0, a, k.2)) ])
