-- The place of a membership and back.
use Rattle.std.proofs.Common.{◌≡◌, ℕ, ◌+◌, ◌-◌, ◌*◌, ◌/◌, ◌%◌, ◌<◌, ◌≤◌, ltb, Some, Option, sym, refl, ap, ◌∙◌, subst, ⊎_elim, arith, MatchOption}
use Rattle.std.proofs.lemmas.Bool.{lt-ltb, le-ltb, cond-true, cond-false, cases_lt}
use Rattle.std.proofs.lemmas.Nat.{div-mul-add, mod-mul-add}
use Rattle.std.specs.Result.{result_ok}
use Rattle.credential.specs.declared.memberships.Membership.{Membership}
use Rattle.credential.specs.Numbers.{Entity, RoleName, entity_of, role_name_of}
use Rattle.credential.specs.Memberships.{place, on_some, membership_at}
use Rattle.credential.proofs.Ranges.{number_of-is}

-- the membership whose three numbers a place has
at-numbers : (m : Membership) (p : ℕ) → p < 16384 → p / 512 + 1 ≡ m.role.owner.number → p / 32 % 16 + 1 ≡ m.role.name.number → p % 32 + 1 ≡ m.member.number
    → membership_at p ≡ Some m
at-numbers m p h a b d =
    cond-true (ltb p 16384) _ _ (lt-ltb p 16384 h)
    ∙ ap (λ (o : Option Entity). on_some o (λ owner. on_some (result_ok (role_name_of (p / 32 % 16 + 1))) (λ name.
    on_some (result_ok (entity_of (p % 32 + 1))) (λ member. Some (record { role = record { owner = owner; name = name }; member = member })))))
    (ap (λ (n : ℕ). result_ok (entity_of n)) a ∙ ap result_ok (number_of-is m.role.owner))
    ∙ ap (λ (o : Option RoleName). on_some o (λ name.
    on_some (result_ok (entity_of (p % 32 + 1))) (λ member. Some (record { role = record { owner = m.role.owner; name = name }; member = member }))))
    (ap (λ (n : ℕ). result_ok (role_name_of n)) b ∙ ap result_ok (number_of-is m.role.name))
    ∙ ap (λ (o : Option Entity). on_some o (λ member. Some (record { role = m.role; member = member })))
    (ap (λ (n : ℕ). result_ok (entity_of n)) d ∙ ap result_ok (number_of-is m.member))

place-below : (a r d : ℕ) → 1 ≤ a → a ≤ 32 → 1 ≤ r → r ≤ 16 → 1 ≤ d → d ≤ 32 → ((a - 1) * 16 + (r - 1)) * 32 + (d - 1) < 16384
place-below a r d a1 a2 r1 r2 d1 d2 = omega arith

pub at_place : (m : Membership) → membership_at (place m) ≡ Some m
at_place m =
    let row : place m / 32 ≡ (m.role.owner.number - 1) * 16 + (m.role.name.number - 1) =
    div-mul-add ((m.role.owner.number - 1) * 16 + (m.role.name.number - 1)) 32 (m.member.number - 1) (high32 m.member) in
    let name : place m / 32 % 16 ≡ m.role.name.number - 1 =
    ap (λ (n : ℕ). n % 16) row ∙ mod-mul-add (m.role.owner.number - 1) 16 (m.role.name.number - 1) (high16 m.role.name) in
    let member : place m % 32 ≡ m.member.number - 1 =
    mod-mul-add ((m.role.owner.number - 1) * 16 + (m.role.name.number - 1)) 32 (m.member.number - 1) (high32 m.member) in
    at-numbers m (place m)
    (place-below m.role.owner.number m.role.name.number m.member.number m.role.owner.low m.role.owner.high m.role.name.low m.role.name.high m.member.low m.member.high)
    (owner m)
    (back (place m / 32 % 16) m.role.name.number m.role.name.low name)
    (back (place m % 32) m.member.number m.member.low member)
  where
    high32 : (e : Entity) → e.number - 1 < 32
    high32 e = omega (arith, e.low, e.high)

    high16 : (s : RoleName) → s.number - 1 < 16
    high16 s = omega (arith, s.low, s.high)

    back : (q n : ℕ) → 1 ≤ n → q ≡ n - 1 → q + 1 ≡ n
    back q n l e = omega arith

    by_numbers : (a r d : ℕ) → 1 ≤ a → 1 ≤ r → r ≤ 16 → 1 ≤ d → d ≤ 32 → (((a - 1) * 16 + (r - 1)) * 32 + (d - 1)) / 512 + 1 ≡ a
    by_numbers a r d a1 r1 r2 d1 d2 = omega arith

    owner : (m : Membership) → place m / 512 + 1 ≡ m.role.owner.number
    owner m = by_numbers m.role.owner.number m.role.name.number m.member.number m.role.owner.low m.role.name.low m.role.name.high m.member.low m.member.high

-- the membership at a place in range
there : (p : ℕ) → p < 16384 → (m : Membership) × (membership_at p ≡ Some m) × (place m ≡ p)
there p h =
    (m, at-numbers m p h refl refl refl, back p h)
  where
    m : Membership
    m = record {
      role = record {
        owner = record { number = p / 512 + 1; low = omega arith; high = omega arith };
        name = record { number = p / 32 % 16 + 1; low = omega arith; high = omega arith };
      };
      member = record { number = p % 32 + 1; low = omega arith; high = omega arith };
    }

    back : (p : ℕ) → p < 16384 → ((p / 512 + 1 - 1) * 16 + (p / 32 % 16 + 1 - 1)) * 32 + (p % 32 + 1 - 1) ≡ p
    back p h = omega arith

pub place_back : (p : ℕ) → MatchOption (membership_at p) (16384 ≤ p) (λ m. place m ≡ p)
place_back p =
    ⊎_elim (λ (h : p < 16384). let t = there p h in subst (λ (o : Option Membership). MatchOption o (16384 ≤ p) (λ m. place m ≡ p)) (sym t.1) t.2)
    (λ (h : 16384 ≤ p). subst (λ (o : Option Membership). MatchOption o (16384 ≤ p) (λ m. place m ≡ p)) (sym (cond-false (ltb p 16384) _ _ (le-ltb p 16384 h))) h)
    (cases_lt p 16384)
