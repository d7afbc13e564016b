-- The tests of a check, and the rules of a table.
use Rattle.std.proofs.Common.{◌≡◌, ℕ, ◌+◌, ◌<◌, Bool, true, false, ◌&&◌, ◌||◌, eqb, ◌⊎◌, List, length, get_or, Ok, Err, Result, sym, refl, ap, ◌∙◌, subst, inl, inr, ⊎_elim, arith}
use Rattle.std.proofs.lemmas.Bool.{and_from, and_parts, or_left, or_right, or_cases, cases_Bool, cases_eq, both_ways, eq-eqb, ne_eqb, eqb-true, eqb-false, cond-true, cond-false, ltb-true, leb-true, lt-ltb, le-leb, not-true, not-false, not_from_true, not_from_false}
use Rattle.credential.specs.Memberships.{place}
use Rattle.credential.specs.Refusals.{Named, refused_entry}
use Rattle.credential.specs.Numbers.{RoleName}
use Rattle.credential.specs.declared.roles.Role.{Role}
use Rattle.credential.specs.declared.memberships.Membership.{Membership}
use Rattle.credential.specs.declared.credentials.Credential.{Credential}
use Rattle.credential.specs.declared.credentials.Credential.TheVariants.{Linked}
use Rattle.model.specs.Tables.{Table, table, verdict, number, IsT, IsF, IsU, Lawful, TClause, FClauses, NoTrueClause, UClause}
use Rattle.model.specs.Grounds.{any, everyone, passes, place_of}
use Rattle.model.proofs.Any.{linked_bodies}
use Rattle.model.proofs.Bodies.{every_map, some_map, if_map, has_map}
use Rattle.model.proofs.Grounds.{clause_passes, passing_clause, clauses_stuck, stuck_clauses}
use Rattle.model.proofs.Places.{at_place, place-below, same_place}
use Rattle.checker.specs.declared.literals.Sign.TheVariants.{Positive, Negated}
use Rattle.checker.specs.declared.wants.Want.{Want}
use Rattle.checker.specs.declared.wants.Want.TheVariants.{Proved, Unrefuted, AllTrue, Possible}
use Rattle.checker.specs.Rules.{lawful_at, literal_at, serves, asked, entry_refusal}
use Rattle.checker.specs.Checks.{Unlawful, Meets, Breaks, Checked, Walked}

pub linked_serves : (w : Want) (n : ℕ) (vs ms : List ℕ) (m : Membership) (H : Role) (S U : RoleName)
    → (eqb H.owner.number m.role.owner.number && eqb H.name.number m.role.name.number) ≡ true
    → serves w n vs ms m (Linked H S U)
    ≡ any (λ y. literal_at Positive w n vs ms (place_of m.role.owner.number S.number y) && literal_at Positive w n vs ms (place_of y U.number m.member.number)) everyone
linked_serves w n vs ms m H S U e =
    ap (any (passes (literal_at Positive w n vs ms) (literal_at Negated w n vs ms))) (cond-true _ _ _ e)
    ∙ linked_bodies (literal_at Positive w n vs ms) (literal_at Negated w n vs ms) m.member.number H S U
    ∙ ap (λ a. any (λ y. literal_at Positive w n vs ms (place_of a S.number y) && literal_at Positive w n vs ms (place_of y U.number m.member.number)) everyone) (eqb-true _ _ (and_parts _ _ e).0)

seventy : (v : ℕ) → v ≡ 70 → eqb v 84 ≡ false
seventy v e = rw e refl

eighty_five : (v : ℕ) → v ≡ 85 → (eqb v 84 ≡ false) × (eqb v 70 ≡ false)
eighty_five v e = rw e (refl, refl)

one_of : (v : ℕ) → (v ≡ 84) ⊎ ((v ≡ 70) ⊎ (v ≡ 85)) → (eqb v 84 || (eqb v 70 || eqb v 85)) ≡ true
one_of v (inl e) = rw e refl
one_of v (inr (inl e)) = rw e refl
one_of v (inr (inr e)) = rw e refl

module _ (cs : List Credential) (vs ms : List ℕ) (m : Membership) where
  abbrev t : Table
  t = table vs ms

  abbrev ask : Want → Bool
  ask w = asked w cs vs ms m

  -- the tests of the literals, at the number of the entry
  abbrev pos : Want → ℕ → Bool
  pos w = literal_at Positive w (get_or ms (place m) 0) vs ms

  abbrev neg : Want → ℕ → Bool
  neg w = literal_at Negated w (get_or ms (place m) 0) vs ms

  proved : ask Proved ≡ true → TClause cs t m
  unfolding verdict number asked
  proved e =
      let r = passing_clause (pos Proved) (neg Proved) cs m e in (
        r.0,
        r.1,
        every_map (λ p h. let x = and_parts _ _ h in (eqb-true _ _ x.0, ltb-true _ _ x.1)) r.0.positive r.2.0,
        if_map (λ p h. let x = and_parts _ _ h in (eqb-true _ _ x.0, ltb-true _ _ x.1)) r.0.negated r.2.1,
      )

  prove : TClause cs t m → ask Proved ≡ true
  unfolding verdict number asked
  prove h =
      clause_passes (pos Proved) (neg Proved) cs m h.0 h.1 (
        every_map (λ p x. and_from _ _ (eq-eqb _ _ x.0) (lt-ltb _ _ x.1)) h.0.positive h.2,
        if_map (λ p x. and_from _ _ (eq-eqb _ _ x.0) (lt-ltb _ _ x.1)) h.0.negated h.3,
      )

  refuted : ask Unrefuted ≡ false → FClauses cs t m
  unfolding verdict number asked
  refuted e o cl =
      elim (clauses_stuck (pos Unrefuted) (neg Unrefuted) cs m e o cl) [
        | inl s ↦ inl (some_map (λ p h. let x = and_parts _ _ (not-false _ h) in (eqb-true _ _ x.0, leb-true _ _ x.1)) o.positive s)
        | inr s ↦ inr (has_map (λ p h. let x = and_parts _ _ (not-false _ h) in (eqb-true _ _ x.0, ltb-true _ _ x.1)) o.negated s)
      ]

  refute : FClauses cs t m → ask Unrefuted ≡ false
  unfolding verdict number asked
  refute h =
      stuck_clauses (pos Unrefuted) (neg Unrefuted) cs m
      (λ o cl. elim (h o cl) [
        | inl s ↦ inl (some_map (λ p x. not_from_true _ (and_from _ _ (eq-eqb _ _ x.0) (le-leb _ _ x.1))) o.positive s)
        | inr s ↦ inr (has_map (λ p x. not_from_true _ (and_from _ _ (eq-eqb _ _ x.0) (lt-ltb _ _ x.1))) o.negated s)
      ])

  no_true : ask AllTrue ≡ false → NoTrueClause cs t m
  unfolding verdict number asked
  no_true e o cl a b =
      both_ways _ e (clause_passes (pos AllTrue) (neg AllTrue) cs m o cl
      (every_map (λ p x. eq-eqb _ _ x) o.positive a, if_map (λ p x. eq-eqb _ _ x) o.negated b))

  a_true : ask AllTrue ≡ true → ¬ (NoTrueClause cs t m)
  unfolding verdict number asked
  a_true e h =
      let r = passing_clause (pos AllTrue) (neg AllTrue) cs m e in
      h r.0 r.1 (every_map (λ p x. eqb-true _ _ x) r.0.positive r.2.0) (if_map (λ p x. eqb-true _ _ x) r.0.negated r.2.1)

  supported : ask Possible ≡ true → UClause cs t m
  unfolding verdict number asked
  supported e =
      let r = passing_clause (pos Possible) (neg Possible) cs m e in (
        r.0,
        r.1,
        every_map (λ p h. elim (or_cases _ _ h) [ inl x ↦ inl (eqb-true _ _ x) | inr y ↦ let x = and_parts _ _ y in inr (eqb-true _ _ x.0, ltb-true _ _ x.1) ]) r.0.positive r.2.0,
        if_map (λ p h. eqb-false _ _ (not-true _ h)) r.0.negated r.2.1,
      )

  support : UClause cs t m → ask Possible ≡ true
  unfolding verdict number asked
  support h =
      clause_passes (pos Possible) (neg Possible) cs m h.0 h.1 (
        every_map (λ p. elim [ inl x ↦ or_left _ _ (eq-eqb _ _ x) | inr x ↦ or_right _ _ (and_from _ _ (eq-eqb _ _ x.0) (lt-ltb _ _ x.1)) ]) h.0.positive h.2,
        if_map (λ p x. not_from_false _ (ne_eqb _ _ x)) h.0.negated h.3,
      )

  abbrev Outcome : Type 0
  Outcome =
      (Meets cs t m × (entry_refusal cs vs ms m ≡ Ok tt))
      ⊎ ((x : ℕ) × (entry_refusal cs vs ms m ≡ Err (refused_entry x (place m))) × Breaks cs t x m)

  on_T : IsT t m → Outcome
  unfolding verdict number
  on_T e =
      elim (cases_Bool (ask Proved)) [
        | inl b ↦ inl (record { if_T = λ _. proved b; if_F = λ f. absurd (omega arith); if_U = λ f. absurd (omega arith) }, cond-true _ _ _ (eq-eqb _ _ e) ∙ cond-true _ _ _ b)
        | inr b ↦ inr (12, cond-true _ _ _ (eq-eqb _ _ e) ∙ cond-false _ _ _ b, inl (refl, e, λ h. both_ways _ b (prove h)))
      ]

  on_F : IsF t m → Outcome
  unfolding verdict number
  on_F e =
      let first = seventy (get_or vs (place m) 0) e in
      elim (cases_Bool (ask Unrefuted)) [
        | inl b ↦ inr (13, cond-false _ _ _ first ∙ cond-true _ _ _ (eq-eqb _ _ e) ∙ cond-true _ _ _ b, inr (inl (refl, e, λ h. both_ways _ (refute h) b)))
        | inr b ↦ inl (
          record { if_T = λ f. absurd (omega arith); if_F = λ _. refuted b; if_U = λ f. absurd (omega arith) },
          cond-false _ _ _ first ∙ cond-true _ _ _ (eq-eqb _ _ e) ∙ cond-false _ _ _ b,
        )
      ]

  on_U : IsU t m → Outcome
  unfolding verdict number
  on_U e =
      let first = eighty_five (get_or vs (place m) 0) e in
      elim (cases_Bool (ask AllTrue)) [
        | inl b ↦ inr (14, cond-false _ _ _ first.0 ∙ cond-false _ _ _ first.1 ∙ cond-true _ _ _ b, inr (inr (inl (refl, e, a_true b))))
        | inr b ↦
            elim (cases_Bool (ask Possible)) [
              | inl k ↦ inl (
                record { if_T = λ f. absurd (omega arith); if_F = λ f. absurd (omega arith); if_U = λ _. (no_true b, supported k) },
                cond-false _ _ _ first.0 ∙ cond-false _ _ _ first.1 ∙ cond-false _ _ _ b ∙ cond-true _ _ _ k,
              )
              | inr k ↦ inr (
                15,
                cond-false _ _ _ first.0 ∙ cond-false _ _ _ first.1 ∙ cond-false _ _ _ b ∙ cond-false _ _ _ k,
                inr (inr (inr (refl, e, no_true b, λ h. both_ways _ k (support h)))),
              )
            ]
      ]

  outcome : Lawful t m → Outcome
  outcome l = elim l.0 [ inl e ↦ on_T e | inr h ↦ elim h [ inl e ↦ on_F e | inr e ↦ on_U e ] ]

  meets : Lawful t m → entry_refusal cs vs ms m ≡ Ok tt → Meets cs t m
  meets l e = go (outcome l)
    where
      go : Outcome → Meets cs t m
      go (inl h) = h.0
      go (inr b) =
          let q : ◌≡◌ {A = Result (Unit {0}) Named} (Ok tt) (Err (refused_entry b.0 (place m))) = sym e ∙ b.1 in
          let z : ◌≡◌ {A = ℕ} 0 1 = cc in absurd (omega arith)

  breaks : Lawful t m → (e : Named) → entry_refusal cs vs ms m ≡ Err e → (x : ℕ) × (e ≡ refused_entry x (place m)) × Breaks cs t x m
  breaks l e r = go (outcome l)
    where
      go : Outcome → (x : ℕ) × (e ≡ refused_entry x (place m)) × Breaks cs t x m
      go (inl h) =
          let q : ◌≡◌ {A = Result (Unit {0}) Named} (Ok tt) (Err e) = sym h.1 ∙ r in
          let z : ◌≡◌ {A = ℕ} 0 1 = cc in absurd (omega arith)
      go (inr b) =
          let q : ◌≡◌ {A = Result (Unit {0}) Named} (Err e) (Err (refused_entry b.0 (place m))) = sym r ∙ b.1 in
          (b.0, cc, b.2)

  lawful-is : lawful_at vs ms (place m) ≡ true → Lawful t m
  unfolding verdict number
  lawful-is e =
      let x = and_parts _ _ e in let y = and_parts _ _ x.1 in (
        elim (or_cases _ _ x.0) [ inl h ↦ inl (eqb-true _ _ h) | inr h ↦ inr (elim (or_cases _ _ h) [ inl k ↦ inl (eqb-true _ _ k) | inr k ↦ inr (eqb-true _ _ k) ]) ],
        leb-true _ _ y.0,
        leb-true _ _ y.1,
      )

  is_lawful : Lawful t m → lawful_at vs ms (place m) ≡ true
  unfolding verdict number
  is_lawful l =
      and_from _ _ (one_of (get_or vs (place m) 0) l.0) (and_from _ _ (le-leb _ _ l.1) (le-leb _ _ l.2))

module _ (cs : List Credential) (vs ms : List ℕ) (sizes : (length vs ≡ 16384) × (length ms ≡ 16384)) where
  pub unlawful : (p : ℕ) → p < 16384 → lawful_at vs ms p ≡ false → ((k : ℕ) → k < p → lawful_at vs ms k ≡ true) → Unlawful (table vs ms) p
  unlawful p h e before =
      let x = at_place p h in
      record {
        sizes = sizes;
        before = λ m l. lawful-is cs vs ms m (before (place m) l);
        there = (x.0, x.1, λ l. both_ways _ e (subst (λ k. lawful_at vs ms k ≡ true) x.1 (is_lawful cs vs ms x.0 l)));
      }

  -- all entries are lawful, and a walk over them answered r
  pub walked : ((p : ℕ) → p < 16384 → lawful_at vs ms p ≡ true) → (r : Result (Unit {0}) Named) → Walked (entry_refusal cs vs ms) r → Checked cs (table vs ms) r
  walked lawful r = go r
    where
      law : (m : Membership) → Lawful (table vs ms) m
      law m = lawful-is cs vs ms m (lawful (place m) (place-below m))

      go : (r : Result (Unit {0}) Named) → Walked (entry_refusal cs vs ms) r → Checked cs (table vs ms) r
      go (Ok u) w =
          record {
            sizes = sizes;
            lawful = law;
            true_ones = λ m. (meets cs vs ms m (law m) (w m)).if_T;
            false_ones = λ m. (meets cs vs ms m (law m) (w m)).if_F;
            undefined_ones = λ m. (meets cs vs ms m (law m) (w m)).if_U;
          }
      go (Err e) w =
          let m = w.0 in
          let b = breaks cs vs ms m (law m) e w.1 in
          subst (λ n. Checked cs (table vs ms) (Err n)) (sym b.1)
          (inr (record { sizes = sizes; lawful = law; before = λ k l. meets cs vs ms k (law k) (w.2 k l); there = (m, refl, b.2) }))

-- a walk by places
pub walk_more : (f : Membership → Result (Unit {0}) Named) (m : Membership) (p : ℕ) → place m ≡ p → f m ≡ Ok tt
    → ((k : Membership) → place k < p → f k ≡ Ok tt) → (k : Membership) → place k < p + 1 → f k ≡ Ok tt
walk_more f m p e ok before k h =
    ⊎_elim (λ (same : place k ≡ p). ap f (same_place k m (same ∙ sym e)) ∙ ok) (λ (ne : place k ≡ p → ⊥). before k (omega arith)) (cases_eq (place k) p)
