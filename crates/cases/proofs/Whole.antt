-- A whole table from a few rows: what a test at each membership shows of it.
use Rattle.std.proofs.Common.{◌≡◌, ℕ, zero, suc, ◌+◌, ◌<◌, ◌≤◌, Bool, true, false, not, T, eqb, leb, ◌⊎◌, List, [], ◌∷◌, length, get_or, sym, refl, ap, ◌∙◌, subst, inl, inr, le_refl, le_of_suc-le-suc, not-suc-le-zero, add-zero, add-suc, suc-add, zero-add, arith}
use native.Mathlib.Nat.{le_of_suc-le}
use Rattle.credential.specs.Numbers.{RoleName}
use Rattle.credential.specs.declared.credentials.Credential.{Credential}
use Rattle.credential.specs.declared.memberships.Membership.{Membership}
use Rattle.credential.specs.Memberships.{place}
use Rattle.model.specs.Clauses.{of}
use Rattle.model.specs.Tables.{verdict, number, IsT, IsF, IsU, Certifies, Least, TClause, FClauses, UClause, NoTrueClause}
use Rattle.cases.specs.Sparse.{Row, verdict_in, number_in, listed, whole}
use Rattle.checker.specs.Checks.{Breaks, Broken}
use Rattle.cases.proofs.Tests.{Settles, and_decides, or_decides, implies_decides, eq_decides, not_decides, le_decides, by_iff}
use Rattle.cases.proofs.Bodied.{In, entities, in_entities, one_up}
use Rattle.credential.proofs.Ranges.{number_path}
use Rattle.cases.proofs.Rules.{lawful_test, meets_test, first_test, t_test, f_test, no_true_test, u_test, is, lawful_decides, meets_decides, first_decides, t_decides, f_decides, no_true_decides, u_decides}
use Rattle.model.proofs.Places.{member-at, place_member_at, place-below}
use Rattle.cases.proofs.Minimal.{least, TFirst, FFirst, UFirst}

-- the lists
length-listed : (f : ℕ → ℕ) (i k : ℕ) → length (listed f i k) ≡ k
unfolding listed
length-listed f i zero = refl
length-listed f i (suc k) = ap suc (length-listed f (suc i) k)

at_listed : (f : ℕ → ℕ) (i k j : ℕ) → j < k → get_or (listed f i k) j 0 ≡ f (i + j)
unfolding listed
at_listed f i zero j h = absurd (not-suc-le-zero h)
at_listed f i (suc k) zero h = ap f (sym (add-zero i))
at_listed f i (suc k) (suc j) h = at_listed f (suc i) k j (le_of_suc-le-suc h) ∙ ap f (suc-add i j ∙ sym (add-suc i j))

module _ (rows : List Row) where
  abbrev pub v : Membership → ℕ
  v m = verdict_in rows (place m)

  abbrev pub n : Membership → ℕ
  n m = number_in rows (place m)

  pub v_is : (m : Membership) → v m ≡ verdict (whole rows) m
  unfolding verdict whole
  v_is m = ap (verdict_in rows) (sym (zero-add (place m))) ∙ sym (at_listed (verdict_in rows) 0 16384 (place m) (place-below m))

  pub n_is : (m : Membership) → n m ≡ number (whole rows) m
  unfolding number whole
  n_is m = ap (number_in rows) (sym (zero-add (place m))) ∙ sym (at_listed (number_in rows) 0 16384 (place m) (place-below m))

  pub whole_sizes : (length (whole rows).verdicts ≡ 16384) × (length (whole rows).numbers ≡ 16384)
  unfolding whole
  whole_sizes = (length-listed (verdict_in rows) 0 16384, length-listed (number_in rows) 0 16384)

-- all role names
pub down16 : {k : ℕ} → suc k ≤ 16 → k ≤ 16
down16 h = le_of_suc-le h

abbrev pub names_to : (k : ℕ) → k ≤ 16 → List RoleName
names_to zero h = []
names_to (suc k) h = record { number = suc k; low = one_up k; high = h } ∷ names_to k (down16 h)

pub sixteen : 16 ≤ 16
sixteen = le_refl 16

in_names_to : (k : ℕ) (h : k ≤ 16) (y : RoleName) → y.number ≤ k → In y (names_to k h)
in_names_to zero h y l = let low : 1 ≤ y.number = y.low in absurd (omega arith)
in_names_to (suc k) h y l = go (λ b. in_names_to k (down16 h) y b) (eqb y.number (suc k)) (eq_decides y.number (suc k))
  where
    go : (y.number ≤ k → In y (names_to k (down16 h))) → (b : Bool) → Settles b (y.number ≡ suc k) → In y (names_to (suc k) h)
    go ih true d = inl (number_path y (record { number = suc k; low = one_up k; high = h }) (d.0 tt))
    go ih false d = inr (ih (let ne : ¬ (y.number ≡ suc k) = d.1 in omega arith))

-- a test at each of a list
module _ {A : Type 0} (f : A → Bool) where
  abbrev pub all : List A → Bool
  all [] = true
  all (x ∷ xs) = let r = all xs in elim (f x) [ true ↦ r | false ↦ false ]

  all_at : (xs : List A) → T (all xs) → (x : A) → In x xs → T (f x)
  all_at [] t x i = absurd i
  all_at (y ∷ ys) t x i = go (f y) refl (λ u k. all_at ys u x k) t i
    where
      go : (b : Bool) → f y ≡ b → (T (all ys) → In x ys → T (f x)) → T (elim b [ true ↦ all ys | false ↦ false ]) → (x ≡ y) ⊎ In x ys → T (f x)
      go true e rec t (inl p) = subst (λ z. T (f z)) (sym p) (subst T (sym e) tt)
      go true e rec t (inr k) = rec t k
      go false e rec t k = absurd t

-- a test at every membership
abbrev pub everywhere : (Membership → Bool) → Bool
everywhere f = all (λ a. all (λ r. all (λ d. f (of (record { owner = a; name = r }) d)) entities) (names_to 16 sixteen)) entities

pub at_each : (f : Membership → Bool) → T (everywhere f) → (m : Membership) → T (f m)
at_each f t m =
    all_at
    (λ d. f (of m.role d))
    entities
    (all_at
    (λ r. all (λ d. f (of (record { owner = m.role.owner; name = r }) d)) entities)
    (names_to 16 sixteen)
    (all_at (λ a. all (λ r. all (λ d. f (of (record { owner = a; name = r }) d)) entities) (names_to 16 sixteen)) entities t m.role.owner (in_entities m.role.owner))
    m.role.name
    (in_names_to 16 sixteen m.role.name m.role.name.high))
    m.member
    (in_entities m.member)

module _ (creds : List Credential) (rows : List Row) (rank : Membership → ℕ) where
  -- every entry is lawful, meets its rule and has the least number
  abbrev pub entry_test : Membership → Bool
  entry_test m =
      elim
      (lawful_test creds (v rows) (n rows) rank m) [
        | true ↦
            elim (meets_test creds (v rows) (n rows) rank m) [ true ↦ first_test creds (v rows) (n rows) rank m | false ↦ false ]
        | false ↦ false
      ]

  three : (a b c : Bool) → T (elim a [ true ↦ elim b [ true ↦ c | false ↦ false ] | false ↦ false ]) → T a × T b × T c
  three true true c t = (tt, tt, t)
  three true false c t = absurd t
  three false b c t = absurd t

  pub least_by_test : T (everywhere entry_test) → Least creds (whole rows)
  least_by_test t = least creds (whole rows) rank certified (λ m. (first m).0) (λ m. (first m).1.0) (λ m. (first m).1.1)
    where
      passed : (m : Membership) → T (lawful_test creds (v rows) (n rows) rank m) × T (meets_test creds (v rows) (n rows) rank m) × T (first_test creds (v rows) (n rows) rank m)
      passed m =
          three
          (lawful_test creds (v rows) (n rows) rank m)
          (meets_test creds (v rows) (n rows) rank m)
          (first_test creds (v rows) (n rows) rank m)
          (at_each entry_test t m)

      meets : (m : Membership)
          → (IsT (whole rows) m → TClause creds (whole rows) m)
          × ((IsF (whole rows) m → FClauses creds (whole rows) m)
          × (IsU (whole rows) m → NoTrueClause creds (whole rows) m × UClause creds (whole rows) m))
      meets m = (meets_decides creds (v rows) (n rows) rank (whole rows) (v_is rows) (n_is rows) m).0 (passed m).1

      first : (m : Membership)
          → (IsT (whole rows) m → TFirst creds (whole rows) rank m)
          × ((IsF (whole rows) m → FFirst creds (whole rows) rank m)
          × (IsU (whole rows) m → UFirst creds (whole rows) rank m))
      first m = (first_decides creds (v rows) (n rows) rank (whole rows) (v_is rows) (n_is rows) m).0 (passed m).2

      certified : Certifies creds (whole rows)
      certified =
          record {
            sizes = whole_sizes rows;
            lawful = λ m. (lawful_decides creds (v rows) (n rows) rank (whole rows) (v_is rows) (n_is rows) m).0 (passed m).0;
            true_ones = λ m. (meets m).0;
            false_ones = λ m. (meets m).1.0;
            undefined_ones = λ m. (meets m).1.1;
          }

  -- an entry before the place meets its rule; the entry at the place breaks the rule with the number
  abbrev pub before_test : ℕ → Membership → Bool
  before_test p m = elim (leb (suc (place m)) p) [ true ↦ meets_test creds (v rows) (n rows) rank m | false ↦ true ]

  abbrev pub breaks_test : ℕ → Membership → Bool
  breaks_test code m =
      let is_T = eqb (v rows m) 84 in
      let is_F = eqb (v rows m) 70 in
      let is_U = eqb (v rows m) 85 in
      let with_T = t_test creds (v rows) (n rows) rank m in
      let with_F = f_test creds (v rows) (n rows) rank m in
      let none_true = no_true_test creds (v rows) (n rows) rank m in
      let with_U = u_test creds (v rows) (n rows) rank m in
      elim
      (elim (eqb code 12) as (λ _. Bool) [ true ↦ elim is_T [ true ↦ not with_T | false ↦ false ] | false ↦ false ]) [
        | true ↦ true
        | false ↦
            elim
            (elim (eqb code 13) as (λ _. Bool) [ true ↦ elim is_F [ true ↦ not with_F | false ↦ false ] | false ↦ false ]) [
              | true ↦ true
              | false ↦
                  elim
                  (elim (eqb code 14) as (λ _. Bool) [ true ↦ elim is_U [ true ↦ not none_true | false ↦ false ] | false ↦ false ]) [
                    | true ↦ true
                    | false ↦
                        elim
                        (eqb code 15)
                        [ true ↦ elim is_U [ true ↦ elim none_true [ true ↦ not with_U | false ↦ false ] | false ↦ false ] | false ↦ false ]
                  ]
            ]
      ]

  breaks_decides : (code : ℕ) (m : Membership) → Settles (breaks_test code m) (Breaks creds (whole rows) code m)
  breaks_decides code m =
      or_decides
      _
      _
      (three_parts _ (and_decides _ _ (eq_decides code 12) (and_decides _ _ (entry 84) (not_decides _ (t_decides creds (v rows) (n rows) rank (whole rows) (v_is rows) (n_is rows) m)))))
      (or_decides
      _
      _
      (three_parts _ (and_decides _ _ (eq_decides code 13) (and_decides _ _ (entry 70) (not_decides _ (f_decides creds (v rows) (n rows) rank (whole rows) (v_is rows) (n_is rows) m)))))
      (or_decides
      _
      _
      (three_parts _ (and_decides _ _ (eq_decides code 14) (and_decides _ _ (entry 85) (not_decides _ no_true))))
      (four_parts _
      (and_decides
      _
      _
      (eq_decides code 15)
      (and_decides
      _
      _
      (entry 85)
      (and_decides _ _ no_true (not_decides _ (u_decides creds (v rows) (n rows) rank (whole rows) (v_is rows) (n_is rows) m))))))))
    where
      three_parts : {A B C : Type 0} (b : Bool) → Settles b (A × (B × C)) → Settles b (A × B × C)
      three_parts b d = by_iff b d (λ h. (h.0, h.1.0, h.1.1)) (λ h. (h.0, (h.1, h.2)))

      four_parts : {A B C D : Type 0} (b : Bool) → Settles b (A × (B × (C × D))) → Settles b (A × B × C × D)
      four_parts b d = by_iff b d (λ h. (h.0, h.1.0, h.1.1.0, h.1.1.1)) (λ h. (h.0, (h.1, (h.2, h.3))))

      entry : (x : ℕ) → Settles (eqb (v rows m) x) (verdict (whole rows) m ≡ x)
      entry x = is creds (v rows) (n rows) rank (whole rows) (v_is rows) (n_is rows) m x

      no_true : Settles (no_true_test creds (v rows) (n rows) rank m) (NoTrueClause creds (whole rows) m)
      no_true = no_true_decides creds (v rows) (n rows) rank (whole rows) (v_is rows) (n_is rows) m

  pub refused_by_test : (code p : ℕ)
      → (below : p < 16384)
      → T (everywhere (lawful_test creds (v rows) (n rows) rank))
      → T (everywhere (before_test p))
      → T (breaks_test code (member-at p below))
      → Broken creds (whole rows) code p
  refused_by_test code p below l b f =
      record {
        sizes = whole_sizes rows;
        lawful = λ m. (lawful_decides creds (v rows) (n rows) rank (whole rows) (v_is rows) (n_is rows) m).0 (at_each (lawful_test creds (v rows) (n rows) rank) l m);
        before = λ m h.
            let k =
            (implies_decides
            _
            _
            (le_decides (suc (place m)) p)
            (meets_decides creds (v rows) (n rows) rank (whole rows) (v_is rows) (n_is rows) m)
            ).0
            (at_each (before_test p) b m)
            h in
            record { if_T = k.0; if_F = k.1.0; if_U = k.1.1 };
        there = (member-at p below, place_member_at p below, (breaks_decides code (member-at p below)).0 f);
      }
