-- The numbers of an offer tell its membership.
use Rattle.std.proofs.Common.{◌≡◌, ℕ, ◌≤◌, Bool, true, false, leb, Ok, Err, Result, refl, ap, arith}
use Rattle.std.proofs.lemmas.Bool.{leb-false}
use Rattle.credential.specs.Refusals.{Named, refused as by, on_ok}
use Rattle.credential.specs.Numbers.{RoleName, Entity, within, entity_of, role_name_of}
use Rattle.history.specs.Theorems.{Numbered, NumbersTell}
use Rattle.credential.specs.declared.memberships.Membership.{Membership}
use Rattle.model.proofs.Places.{same_place}
use Rattle.history.specs.Events.{Call, publish, withdraw, certify, adopt, offer, draw, decline, hand_back, asked}
use Rattle.history.specs.Law.{InRange}

abbrev numbers_of : Call → ℕ × ℕ × ℕ
numbers_of (publish c) = (0, 0, 0)
numbers_of (withdraw p) = (0, 0, 0)
numbers_of (certify b) = (0, 0, 0)
numbers_of (adopt t) = (0, 0, 0)
numbers_of (offer a r d) = (a, r, d)
numbers_of (draw s) = (0, 0, 0)
numbers_of (decline s) = (0, 0, 0)
numbers_of (hand_back s) = (0, 0, 0)

-- memberships of the same numbers are the same
same-membership : (m n : Membership) → m.role.owner.number ≡ n.role.owner.number → m.role.name.number ≡ n.role.name.number → m.member.number ≡ n.member.number → m ≡ n
same-membership m n a r d = same_place m n (omega (arith, a, r, d))

pub same_asked : (m n : Membership) → asked m ≡ asked n → m ≡ n
same_asked m n q = same-membership m n (ap (λ (c : Call). (numbers_of c).0) q) (ap (λ (c : Call). (numbers_of c).1) q) (ap (λ (c : Call). (numbers_of c).2) q)

pub in_range : (a r d : ℕ) (m : Membership) → asked m ≡ offer a r d → InRange a r d
in_range a r d m q =
    let x : m.role.owner.number ≡ a = ap (λ (c : Call). (numbers_of c).0) q in
    let y : m.role.name.number ≡ r = ap (λ (c : Call). (numbers_of c).1) q in
    let z : m.member.number ≡ d = ap (λ (c : Call). (numbers_of c).2) q in (
      (omega (arith, x, m.role.owner.low), omega (arith, x, m.role.owner.high)),
      (omega (arith, y, m.role.name.low), omega (arith, y, m.role.name.high)),
      (omega (arith, z, m.member.low), omega (arith, z, m.member.high)),
    )

-- a number makes its entity or role name, or is out of range
abbrev Ranged : {X : Type 0} → (most n : ℕ) → (X → ℕ) → Result X Named → Type 0
Ranged most n number (Ok x) = number x ≡ n
Ranged most n number (Err e) = (e ≡ by 5) × ¬ ((1 ≤ n) × (n ≤ most))

ranged : {X : Type 0} (most n : ℕ) (number : X → ℕ) (make : 1 ≤ n → n ≤ most → X) → ((low : 1 ≤ n) (high : n ≤ most) → number (make low high) ≡ n)
    → (l h : Bool) (p : leb 1 n ≡ l) (q : leb n most ≡ h) → Ranged most n number (within most n make l h p q)
ranged most n number make e true true p q = e _ _
ranged most n number make e true false p q = (refl, λ x. omega (arith, leb-false n most q, x.1))
ranged most n number make e false true p q = (refl, λ x. omega (arith, leb-false 1 n p, x.0))
ranged most n number make e false false p q = (refl, λ x. omega (arith, leb-false 1 n p, x.0))

abbrev its_entity : Entity → ℕ
its_entity x = x.number

abbrev its_name : RoleName → ℕ
its_name x = x.number

entity-ranged : (n : ℕ) → Ranged 32 n its_entity (entity_of n)
entity-ranged n = ranged 32 n its_entity (λ low high. record { number = n; low = low; high = high }) (λ low high. refl) (leb 1 n) (leb n 32) refl refl

name-ranged : (n : ℕ) → Ranged 16 n its_name (role_name_of n)
name-ranged n = ranged 16 n its_name (λ low high. record { number = n; low = low; high = high }) (λ low high. refl) (leb 1 n) (leb n 16) refl refl

pub numbers_tell : NumbersTell
numbers_tell a r d =
    owner (entity_of a) (entity-ranged a)
  where
    member : (x : Entity) (y : RoleName) → x.number ≡ a → y.number ≡ r → (z : Result Entity Named) → Ranged 32 d its_entity z
        → Numbered a r d (on_ok z (λ m. Ok (record { role = record { owner = x; name = y }; member = m })))
    member x y p q (Ok z) s = λ i. offer (p i) (q i) (s i)
    member x y p q (Err e) s = (s.0, λ w. s.1 w.2)

    name : (x : Entity) → x.number ≡ a → (y : Result RoleName Named) → Ranged 16 r its_name y
        → Numbered a r d (on_ok y (λ n. on_ok (entity_of d) (λ m. Ok (record { role = record { owner = x; name = n }; member = m }))))
    name x p (Ok y) q = member x y p q (entity_of d) (entity-ranged d)
    name x p (Err e) q = (q.0, λ w. q.1 w.1)

    owner : (x : Result Entity Named) → Ranged 32 a its_entity x
        → Numbered a r d (on_ok x (λ o. on_ok (role_name_of r) (λ n. on_ok (entity_of d) (λ m. Ok (record { role = record { owner = o; name = n }; member = m })))))
    owner (Ok x) p = name x p (role_name_of r) (name-ranged r)
    owner (Err e) p = (p.0, λ w. p.1 w.0)
