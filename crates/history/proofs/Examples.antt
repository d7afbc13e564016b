-- The worked history conforms, and its statement is that.
use Rattle.std.proofs.Common.{◌≡◌, ℕ, Bool, true, false, T, eqb, leb, [], ◌∷◌, refl, ap, ◌∙◌, subst, inl, inr, arith, lit<, lit≤}
use mathlib.Core.Option.{none, some}
use Rattle.credential.specs.declared.credentials.Credential.{Credential}
use Rattle.credential.specs.declared.credentials.Credential.TheVariants.{Member, Exclusion}
use Rattle.credential.specs.declared.memberships.Membership.{Membership}
use Rattle.credential.specs.Numbers.{Entity}
use Rattle.credential.specs.declared.roles.Role.{Role}
use Rattle.credential.specs.Memberships.{place}
use Rattle.model.specs.Clauses.{Body, Among, Gives, Clause}
use Rattle.model.specs.Stages.{IsModelTrue}
use Rattle.model.specs.Tables.{Table, IsT, Least}
use Rattle.model.proofs.Leastness.{least_certificate_certifies}
use Rattle.model.proofs.Places.{same_place}
use Rattle.model.proofs.Soundness.{certificates_show_the_model}
use Rattle.page.specs.Numerals.{lead, numeral}
use Rattle.std.proofs.lemmas.Bool.{true≢false, eqb-true}
use Rattle.history.specs.Law.{no_such_place, no_certificate, out_of_range, not_to_hand_back}
use Rattle.history.specs.Example.{entity, role, page, member, Example}

-- the entity 3 in a role of the entity 1
abbrev three_in : (k : ℕ) → T (leb 1 k) → T (leb k 16) → Membership
three_in k low high = record { role = role k low high; member = entity 3 tt tt }

-- no credential gives it of 1.2
numbers : (h : Role) (m : Membership) → h ≡ m.role → m ≡ three_in 2 tt tt → h.name.number ≡ 2
numbers h m e f = ap (λ (r : Role). r.name.number) e ∙ ap (λ (x : Membership). x.role.name.number) f

no_clause : (m : Membership) (o : Body) → m ≡ three_in 2 tt tt → (c : Credential) → Among c page → Gives c m o → ⊥
no_clause m o e c (inl q) g =
    let z = subst (λ (x : Credential). Gives x m o) q g in
    let n = numbers (role 3 tt tt) m z.0 e in omega (arith, n)
no_clause m o e c (inr (inl q)) g =
    let z = subst (λ (x : Credential). Gives x m o) q g in
    let n = numbers (role 1 tt tt) m z.0 e in omega (arith, n)
no_clause m o e c (inr (inr (inl q))) g =
    let z = subst (λ (x : Credential). Gives x m o) q g in
    let n = numbers (role 1 tt tt) m z.0 e in omega (arith, n)
no_clause m o e c (inr (inr (inr (inl q)))) g =
    let z = subst (λ (x : Credential). Gives x m o) q g in
    let n : ◌≡◌ {A = ℕ} 2 3 = ap (λ (x : Entity). x.number) z.1 ∙ ap (λ (x : Membership). x.member.number) e in omega (arith, n)
no_clause m o e c (inr (inr (inr (inr q)))) g = absurd q

is_so : (b : Bool) → T b → b ≡ true
is_so true t = refl
is_so false t = absurd t

-- so it is false at the first stage, and in 1.3 true at the second
true_member : IsModelTrue page member
unfolding Clause
true_member = (
  2,
  (
    record { positive = three_in 1 tt tt ∷ []; negated = some (three_in 2 tt tt) },
    (Exclusion (role 3 tt tt) (role 1 tt tt) (role 2 tt tt), inl refl, (refl, refl)),
    (
      (record { positive = []; negated = none }, (Member (role 1 tt tt) (entity 3 tt tt), inr (inr (inl refl)), (refl, refl, refl)), tt, tt),
      tt,
    ),
    (
      (λ x. eqb (place x) (place (three_in 2 tt tt))),
      tt,
      λ m t o c. absurd (no_clause m o (same_place m (three_in 2 tt tt) (eqb-true (place m) (place (three_in 2 tt tt)) (is_so _ t))) c.0 c.1 c.2),
    ),
  ),
)

true_one : (t : Table) → Least page t → IsT t member
true_one t least = (certificates_show_the_model page t (least_certificate_certifies page t least) member).0.1 true_member

pub example : Example
unfolding numeral lead
example b t n done = (
  (
    (
      (
        (
          (
            (
              (
                ((tt, tt, no_such_place (λ f. omega (arith, f.1))), tt, no_certificate ((lit≤ tt, lit≤ tt), (lit≤ tt, lit≤ tt), (lit≤ tt, lit≤ tt)) refl),
                tt,
                out_of_range (λ f. omega (arith, f.2.1)),
              ),
              refl,
              done,
            ),
            tt,
            ((t, refl, true_one t done.1), lit< tt, lit< tt, refl),
          ),
          tt,
          ((refl, ((refl, refl), refl)), refl),
        ),
        tt,
        ((t, refl, true_one t done.1), lit< tt, lit< tt, refl),
      ),
      tt,
      (refl, ((refl, refl), refl)),
    ),
    tt,
    not_to_hand_back (λ f. true≢false f.1.0.1),
  ),
  refl,
)
