-- What two lists are read as: tables, or a refusal.
use Rattle.std.proofs.Common.{◌≡◌, ℕ, ◌<◌, ◌≤◌, true, false, not, cond, eqb, ltb, List, length, get_or, Some, None, Option, Ok, Err, Result, sym, refl, ap, ◌∙◌, subst, inl, inr, arith}
use Rattle.std.specs.List.{zip, position_or_len}
use Rattle.std.proofs.lemmas.Bool.{cases_Bool, eq-eqb, eqb-true, eqb-false, cond-true, cond-false, ltb-false, not-true, not-false}
use Rattle.std.proofs.lemmas.List.Sums.{prefix_len_passes}
use Rattle.std.proofs.lemmas.List.Quantifiers.{position-Some}
use Rattle.std.proofs.lemmas.Option.{none-some}
use Rattle.std.proofs.lemmas.Slice.Zip.{get_or-zip, length-zip}
use Rattle.credential.specs.Refusals.{Named, refused, refused_entry}
use Rattle.credential.specs.declared.credentials.Credential.{Credential}
use Rattle.model.specs.Tables.{Table, table, Sized}
use Rattle.checker.specs.Rules.{lawful, lawful_at, first_unlawful, unless_unlawful, tables_in}
use Rattle.checker.specs.Checks.{Checked}
use Rattle.checker.proofs.Rules.{unlawful}

module _ (vs ms : List ℕ) (a : length vs ≡ 16384) (b : length ms ≡ 16384) where
  pub read : tables_in vs ms ≡ unless_unlawful (table vs ms) (first_unlawful vs ms)
  read = cond-true _ _ _ (eq-eqb _ _ a) ∙ cond-true _ _ _ (eq-eqb _ _ b)

  long : length (zip vs ms) ≡ 16384
  long = length-zip vs ms ∙ omega arith

  entry : (p : ℕ) → p < 16384 → get_or (zip vs ms) p (0, 0) ≡ (get_or vs p 0, get_or ms p 0)
  entry p h = get_or-zip vs ms p (0, 0) (omega arith) (omega arith)

  pub lawful_if_none : None ≡ first_unlawful vs ms → (p : ℕ) → p < 16384 → lawful_at vs ms p ≡ true
  lawful_if_none none p h =
      elim (cases_Bool (ltb (position_or_len (λ (e : ℕ × ℕ). not (lawful e.0 e.1)) (zip vs ms)) (length (zip vs ms)))) [
        | inl t ↦ absurd (none-some _ (none ∙ cond-true _ _ _ t))
        | inr f ↦
            let past : length (zip vs ms) ≤ position_or_len (λ (e : ℕ × ℕ). not (lawful e.0 e.1)) (zip vs ms) = ltb-false _ _ f in
            let all = prefix_len_passes (λ (e : ℕ × ℕ). not (not (lawful e.0 e.1))) (zip vs ms) p (0, 0) (omega (arith, long)) in
            subst (λ (e : ℕ × ℕ). lawful e.0 e.1 ≡ true) (entry p h) (not-false _ (not-true _ all))
      ]

  pub first_if_some : (p : ℕ) → Some p ≡ first_unlawful vs ms → (p < 16384) × (lawful_at vs ms p ≡ false) × ((k : ℕ) → k < p → lawful_at vs ms k ≡ true)
  first_if_some p some =
      let x = position-Some (λ (e : ℕ × ℕ). not (lawful e.0 e.1)) (zip vs ms) p (0, 0) (sym some) in
      let below : p < 16384 = omega (arith, long, x.0) in (
        below,
        subst (λ (e : ℕ × ℕ). lawful e.0 e.1 ≡ false) (entry p below) (not-true _ x.1),
        λ k h. subst (λ (e : ℕ × ℕ). lawful e.0 e.1 ≡ true) (entry k (omega arith)) (not-false _ (x.2 k h)),
      )

-- a list that has the length is itself
pub list_read : (xs ys : List ℕ) → Ok ys ≡ cond (eqb (length xs) 16384) (Ok xs) (Err (refused 10)) → length ys ≡ 16384
list_read xs ys h =
    elim (cases_Bool (eqb (length xs) 16384)) [
      | inl a ↦ let z : ◌≡◌ {A = Result (List ℕ) Named} (Ok ys) (Ok xs) = h ∙ cond-true _ _ _ a in let e : ys ≡ xs = cc in ap length e ∙ eqb-true _ _ a
      | inr a ↦ let z : ◌≡◌ {A = Result (List ℕ) Named} (Ok ys) (Err (refused 10)) = h ∙ cond-false _ _ _ a in absurd (cc)
    ]

-- the tables that are read are the lists
pub tables_read : (vs ms : List ℕ) (t : Table) → Ok t ≡ tables_in vs ms → (t ≡ table vs ms) × Sized t
tables_read vs ms t h =
    elim (cases_Bool (eqb (length vs) 16384)) [
      | inl a ↦
          elim (cases_Bool (eqb (length ms) 16384)) [
            | inl b ↦
                let e = go (first_unlawful vs ms) (h ∙ read vs ms (eqb-true _ _ a) (eqb-true _ _ b)) in
                (e, subst Sized (sym e) (eqb-true _ _ a, eqb-true _ _ b))
            | inr b ↦ let z : ◌≡◌ {A = Result Table Named} (Ok t) (Err (refused 10)) = h ∙ cond-true _ _ _ a ∙ cond-false _ _ _ b in absurd (cc)
          ]
      | inr a ↦ let z : ◌≡◌ {A = Result Table Named} (Ok t) (Err (refused 10)) = h ∙ cond-false _ _ _ a in absurd (cc)
    ]
  where
    go : (o : Option ℕ) → Ok t ≡ unless_unlawful (table vs ms) o → t ≡ table vs ms
    go None e = cc
    go (Some p) e = absurd (cc)

-- and what refuses them is what a check answers
pub tables_refused : (cs : List Credential) (vs ms : List ℕ) (e : Named) → Err e ≡ tables_in vs ms → Checked cs (table vs ms) (Err e)
tables_refused cs vs ms e h =
    elim (cases_Bool (eqb (length vs) 16384)) [
      | inl a ↦
          elim (cases_Bool (eqb (length ms) 16384)) [
            | inl b ↦ go (eqb-true _ _ a) (eqb-true _ _ b) (first_unlawful vs ms) refl (h ∙ read vs ms (eqb-true _ _ a) (eqb-true _ _ b))
            | inr b ↦ other (h ∙ cond-true _ _ _ a ∙ cond-false _ _ _ b) (λ s. eqb-false _ _ b s.1)
          ]
      | inr a ↦ other (h ∙ cond-false _ _ _ a) (λ s. eqb-false _ _ a s.0)
    ]
  where
    other : ◌≡◌ {A = Result Table Named} (Err e) (Err (refused 10)) → ¬ (Sized (table vs ms)) → Checked cs (table vs ms) (Err e)
    other z n = let x : refused 10 ≡ e = cc in subst (λ r. Checked cs (table vs ms) (Err r)) x (refl, n)

    go : length vs ≡ 16384 → length ms ≡ 16384 → (o : Option ℕ) → o ≡ first_unlawful vs ms → Err e ≡ unless_unlawful (table vs ms) o → Checked cs (table vs ms) (Err e)
    go a b None is z = absurd (cc)
    go a b (Some p) is z =
        let x : refused_entry 11 p ≡ e = cc in
        let f = first_if_some vs ms a b p is in
        subst (λ r. Checked cs (table vs ms) (Err r)) x (inl (refl, unlawful cs vs ms (a, b) p f.0 f.1 f.2))
