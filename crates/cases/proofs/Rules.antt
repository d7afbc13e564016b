-- The rules of a table as tests that compute.
use Rattle.std.proofs.Common.{◌≡◌, ℕ, suc, ◌<◌, ◌≤◌, Bool, true, false, not, eqb, leb, List, [], ◌∷◌, sym, refl, subst, subst₂, inl, inr}
use Rattle.credential.specs.declared.credentials.Credential.{Credential}
use Rattle.credential.specs.declared.memberships.Membership.{Membership}
use Rattle.model.specs.Clauses.{Body, Clause}
use Rattle.model.specs.Tables.{Table, verdict, number, Lawful, IsT, IsF, IsU, TClause, FClauses, NoTrueClause, UClause}
use Rattle.cases.proofs.Tests.{Settles, and_decides, or_decides, implies_decides, not_decides, eq_decides, le_decides, by_iff, every, some', if_negated, has_negated, every_decides, some_decides, if_decides, has_decides}
use Rattle.cases.proofs.Bodied.{In, bodies, clause_of, of_clause}
use Rattle.cases.proofs.Minimal.{TFirst, FFirst, UFirst}

module _ (f : Body → Bool) where
  abbrev pub some_body : List Body → Bool
  some_body [] = false
  some_body (o ∷ os) = let r = some_body os in elim (f o) [ true ↦ true | false ↦ r ]

  abbrev pub each_body : List Body → Bool
  each_body [] = true
  each_body (o ∷ os) = let r = each_body os in elim (f o) [ true ↦ r | false ↦ false ]

  module _ {P : Body → Type 0} (d : (o : Body) → Settles (f o) (P o)) where
    some_in : (os : List Body) → Settles (some_body os) ((o : Body) × In o os × P o)
    some_in [] = (λ t. absurd t, λ h. h.1)
    some_in (o ∷ os) =
        by_iff
        (some_body (o ∷ os))
        (or_decides (f o) (some_body os) (d o) (some_in os))
        (elim [ inl h ↦ (o, inl refl, h) | inr h ↦ (h.0, inr h.1, h.2) ])
        (λ h. elim h.1 [ inl e ↦ inl (subst P e h.2) | inr i ↦ inr (h.0, i, h.2) ])

    each_in : (os : List Body) → Settles (each_body os) ((o : Body) → In o os → P o)
    each_in [] = (λ t o i. absurd i, λ h. tt)
    each_in (o ∷ os) =
        by_iff
        (each_body (o ∷ os))
        (and_decides (f o) (each_body os) (d o) (each_in os))
        (λ h x. elim [ inl e ↦ subst P (sym e) h.0 | inr i ↦ h.1 x i ])
        (λ h. (h o (inl refl), λ x i. h x (inr i)))

    pub some_clause : (cs : List Credential) (m : Membership) → Settles (some_body (bodies cs m)) ((o : Body) × Clause cs m o × P o)
    some_clause cs m =
        by_iff
        (some_body (bodies cs m))
        (some_in (bodies cs m))
        (λ h. (h.0, clause_of cs m h.0 h.1, h.2))
        (λ h. (h.0, of_clause cs m h.0 h.1, h.2))

    pub each_clause : (cs : List Credential) (m : Membership) → Settles (each_body (bodies cs m)) ((o : Body) → Clause cs m o → P o)
    each_clause cs m =
        by_iff
        (each_body (bodies cs m))
        (each_in (bodies cs m))
        (λ h o cl. h o (of_clause cs m o cl))
        (λ h o i. h o (clause_of cs m o i))

-- the tests, over the verdicts and the numbers of the memberships
module _ (cs : List Credential) (v n rank : Membership → ℕ) where
  abbrev pub t_test : Membership → Bool
  t_test m =
      some_body
      (λ o.
      elim
      (every (λ p. elim (eqb (v p) 84) [ true ↦ leb (suc (n p)) (n m) | false ↦ false ]) o.positive)
      [ true ↦ if_negated (λ q. elim (eqb (v q) 70) [ true ↦ leb (suc (n q)) (n m) | false ↦ false ]) o.negated | false ↦ false ])
      (bodies cs m)

  abbrev pub f_test : Membership → Bool
  f_test m =
      each_body
      (λ o.
      elim
      (some' (λ p. elim (eqb (v p) 70) [ true ↦ leb (n p) (n m) | false ↦ false ]) o.positive)
      [ true ↦ true | false ↦ has_negated (λ q. elim (eqb (v q) 84) [ true ↦ leb (suc (n q)) (n m) | false ↦ false ]) o.negated ])
      (bodies cs m)

  abbrev pub no_true_test : Membership → Bool
  no_true_test m =
      each_body
      (λ o.
      not
      (elim
      (every (λ p. eqb (v p) 84) o.positive)
      [ true ↦ if_negated (λ q. eqb (v q) 70) o.negated | false ↦ false ]))
      (bodies cs m)

  abbrev pub u_test : Membership → Bool
  u_test m =
      some_body
      (λ o.
      elim
      (every
      (λ p. elim (eqb (v p) 84) [ true ↦ true | false ↦ elim (eqb (v p) 85) [ true ↦ leb (suc (n p)) (n m) | false ↦ false ] ])
      o.positive)
      [ true ↦ if_negated (λ q. not (eqb (v q) 84)) o.negated | false ↦ false ])
      (bodies cs m)

  abbrev pub t_first_test : Membership → Bool
  t_first_test m =
      elim
      (leb (n m) 1) [
        | true ↦ true
        | false ↦
            each_body
            (λ o.
            elim
            (some' (λ p. elim (not (eqb (v p) 84)) [ true ↦ true | false ↦ leb (n m) (suc (n p)) ]) o.positive)
            [ true ↦ true | false ↦ has_negated (λ q. elim (not (eqb (v q) 70)) [ true ↦ true | false ↦ leb (n m) (suc (n q)) ]) o.negated ])
            (bodies cs m)
      ]

  abbrev pub f_first_test : Membership → Bool
  f_first_test m =
      elim
      (leb (n m) 1) [
        | true ↦ true
        | false ↦
            some_body
            (λ o.
            elim
            (every
            (λ p.
            elim
            (not (eqb (v p) 70))
            [ true ↦ true | false ↦ elim (leb (n m) (n p)) [ true ↦ leb (suc (rank p)) (rank m) | false ↦ false ] ])
            o.positive)
            [ true ↦ if_negated (λ q. elim (not (eqb (v q) 84)) [ true ↦ true | false ↦ leb (n m) (suc (n q)) ]) o.negated | false ↦ false ])
            (bodies cs m)
      ]

  abbrev pub u_first_test : Membership → Bool
  u_first_test m =
      elim
      (leb (n m) 1) [
        | true ↦ true
        | false ↦
            each_body
            (λ o.
            elim
            (some'
            (λ p. elim (eqb (v p) 70) [ true ↦ true | false ↦ elim (eqb (v p) 85) [ true ↦ leb (n m) (suc (n p)) | false ↦ false ] ])
            o.positive)
            [ true ↦ true | false ↦ has_negated (λ q. eqb (v q) 84) o.negated ])
            (bodies cs m)
      ]

  module _ (t : Table) (ev : (m : Membership) → v m ≡ verdict t m) (en : (m : Membership) → n m ≡ number t m) where
    pub is : (p : Membership) (x : ℕ) → Settles (eqb (v p) x) (verdict t p ≡ x)
    is p x = subst (λ w. Settles (eqb (v p) x) (w ≡ x)) (ev p) (eq_decides (v p) x)

    pub below : (p m : Membership) → Settles (leb (suc (n p)) (n m)) (number t p < number t m)
    below p m = subst₂ (λ a b. Settles (leb (suc (n p)) (n m)) (a < b)) (en p) (en m) (le_decides (suc (n p)) (n m))

    up_to : (p m : Membership) → Settles (leb (n p) (n m)) (number t p ≤ number t m)
    up_to p m = subst₂ (λ a b. Settles (leb (n p) (n m)) (a ≤ b)) (en p) (en m) (le_decides (n p) (n m))

    next_to : (m p : Membership) → Settles (leb (n m) (suc (n p))) (number t m ≤ suc (number t p))
    next_to m p = subst₂ (λ a b. Settles (leb (n m) (suc (n p))) (a ≤ suc b)) (en m) (en p) (le_decides (n m) (suc (n p)))

    pub at_most : (m : Membership) (k : ℕ) → Settles (leb (n m) k) (number t m ≤ k)
    at_most m k = subst (λ a. Settles (leb (n m) k) (a ≤ k)) (en m) (le_decides (n m) k)

    pub at_least : (m : Membership) (k : ℕ) → Settles (leb k (n m)) (k ≤ number t m)
    at_least m k = subst (λ a. Settles (leb k (n m)) (k ≤ a)) (en m) (le_decides k (n m))

    pub f_decides : (m : Membership) → Settles (f_test m) (FClauses cs t m)
    f_decides m =
        each_clause
        _
        (λ o.
        or_decides
        _
        _
        (some_decides _ (λ p. and_decides _ _ (is p 70) (up_to p m)) o.positive)
        (has_decides _ (λ q. and_decides _ _ (is q 84) (below q m)) o.negated))
        cs
        m

    pub t_decides : (m : Membership) → Settles (t_test m) (TClause cs t m)
    t_decides m =
        by_iff
        (t_test m)
        (some_clause
        _
        (λ o.
        and_decides
        _
        _
        (every_decides _ (λ p. and_decides _ _ (is p 84) (below p m)) o.positive)
        (if_decides _ (λ q. and_decides _ _ (is q 70) (below q m)) o.negated))
        cs
        m)
        (λ h. (h.0, h.1, h.2.0, h.2.1))
        (λ h. (h.0, h.1, (h.2, h.3)))

    pub no_true_decides : (m : Membership) → Settles (no_true_test m) (NoTrueClause cs t m)
    no_true_decides m =
        by_iff
        (no_true_test m)
        (each_clause
        _
        (λ o. not_decides _ (and_decides _ _ (every_decides _ (λ p. is p 84) o.positive) (if_decides _ (λ q. is q 70) o.negated)))
        cs
        m)
        (λ h o cl a b. h o cl (a, b))
        (λ h o cl k. h o cl k.0 k.1)

    pub u_decides : (m : Membership) → Settles (u_test m) (UClause cs t m)
    u_decides m =
        by_iff
        (u_test m)
        (some_clause
        _
        (λ o.
        and_decides
        _
        _
        (every_decides _ (λ p. or_decides _ _ (is p 84) (and_decides _ _ (is p 85) (below p m))) o.positive)
        (if_decides _ (λ q. not_decides _ (is q 84)) o.negated))
        cs
        m)
        (λ h. (h.0, h.1, h.2.0, h.2.1))
        (λ h. (h.0, h.1, (h.2, h.3)))

    pub t_first_decides : (m : Membership) → Settles (t_first_test m) (TFirst cs t rank m)
    t_first_decides m =
        or_decides
        _
        _
        (at_most m 1)
        (each_clause
        _
        (λ o.
        or_decides
        _
        _
        (some_decides _ (λ p. or_decides _ _ (not_decides _ (is p 84)) (next_to m p)) o.positive)
        (has_decides _ (λ q. or_decides _ _ (not_decides _ (is q 70)) (next_to m q)) o.negated))
        cs
        m)

    pub f_first_decides : (m : Membership) → Settles (f_first_test m) (FFirst cs t rank m)
    f_first_decides m =
        or_decides
        _
        _
        (at_most m 1)
        (some_clause
        _
        (λ o.
        and_decides
        _
        _
        (every_decides
        _
        (λ p. or_decides _ _ (not_decides _ (is p 70)) (and_decides _ _ (up_to m p) (le_decides (suc (rank p)) (rank m))))
        o.positive)
        (if_decides _ (λ q. or_decides _ _ (not_decides _ (is q 84)) (next_to m q)) o.negated))
        cs
        m)

    pub u_first_decides : (m : Membership) → Settles (u_first_test m) (UFirst cs t rank m)
    u_first_decides m =
        or_decides
        _
        _
        (at_most m 1)
        (each_clause
        _
        (λ o.
        or_decides
        _
        _
        (some_decides _ (λ p. or_decides _ _ (is p 70) (and_decides _ _ (is p 85) (next_to m p))) o.positive)
        (has_decides _ (λ q. is q 84) o.negated))
        cs
        m)

  -- an entry is lawful; it meets its rule; it meets the rule of the least table too
  abbrev pub lawful_test : Membership → Bool
  lawful_test m =
      elim
      (elim (eqb (v m) 84) as (λ _. Bool) [ true ↦ true | false ↦ elim (eqb (v m) 70) [ true ↦ true | false ↦ eqb (v m) 85 ] ])
      [ true ↦ elim (leb 1 (n m)) [ true ↦ leb (n m) 16384 | false ↦ false ] | false ↦ false ]

  abbrev pub meets_test : Membership → Bool
  meets_test m =
      elim
      (elim (eqb (v m) 84) as (λ _. Bool) [ true ↦ t_test m | false ↦ true ]) [
        | true ↦
            elim
            (elim (eqb (v m) 70) as (λ _. Bool) [ true ↦ f_test m | false ↦ true ])
            [ true ↦ elim (eqb (v m) 85) [ true ↦ elim (no_true_test m) [ true ↦ u_test m | false ↦ false ] | false ↦ true ] | false ↦ false ]
        | false ↦ false
      ]

  abbrev pub first_test : Membership → Bool
  first_test m =
      elim
      (elim (eqb (v m) 84) as (λ _. Bool) [ true ↦ t_first_test m | false ↦ true ]) [
        | true ↦
            elim
            (elim (eqb (v m) 70) as (λ _. Bool) [ true ↦ f_first_test m | false ↦ true ])
            [ true ↦ elim (eqb (v m) 85) [ true ↦ u_first_test m | false ↦ true ] | false ↦ false ]
        | false ↦ false
      ]

  module _ (t : Table) (ev : (m : Membership) → v m ≡ verdict t m) (en : (m : Membership) → n m ≡ number t m) where
    pub lawful_decides : (m : Membership) → Settles (lawful_test m) (Lawful t m)
    lawful_decides m =
        by_iff
        (lawful_test m)
        (and_decides
        _
        _
        (or_decides _ _ (is t ev en m 84) (or_decides _ _ (is t ev en m 70) (is t ev en m 85)))
        (and_decides _ _ (at_least t ev en m 1) (at_most t ev en m 16384)))
        (λ h. (h.0, h.1.0, h.1.1))
        (λ h. (h.0, (h.1, h.2)))

    pub meets_decides : (m : Membership)
        → Settles
        (meets_test m)
        ((IsT t m → TClause cs t m) × ((IsF t m → FClauses cs t m) × (IsU t m → NoTrueClause cs t m × UClause cs t m)))
    meets_decides m =
        and_decides
        _
        _
        (implies_decides _ _ (is t ev en m 84) (t_decides t ev en m))
        (and_decides
        _
        _
        (implies_decides _ _ (is t ev en m 70) (f_decides t ev en m))
        (implies_decides _ _ (is t ev en m 85) (and_decides _ _ (no_true_decides t ev en m) (u_decides t ev en m))))

    pub first_decides : (m : Membership)
        → Settles
        (first_test m)
        ((IsT t m → TFirst cs t rank m) × ((IsF t m → FFirst cs t rank m) × (IsU t m → UFirst cs t rank m)))
    first_decides m =
        and_decides
        _
        _
        (implies_decides _ _ (is t ev en m 84) (t_first_decides t ev en m))
        (and_decides
        _
        _
        (implies_decides _ _ (is t ev en m 70) (f_first_decides t ev en m))
        (implies_decides _ _ (is t ev en m 85) (u_first_decides t ev en m)))
