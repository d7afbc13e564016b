-- The book has one record for each open lease, and no other.
use Rattle.std.proofs.Common.{◌≡◌, ℕ, zero, suc, ◌+◌, ◌<◌, ◌≤◌, Bool, false, cond, ◌&&◌, eqb, ◌⊎◌, List, [], ◌∷◌, sym, refl, ap, ◌∙◌, subst, inl, inr, le_of_suc-le-suc, not-suc-le-zero, arith}
use Rattle.std.proofs.lemmas.Bool.{eqb-true, eq-eqb, and_parts, cases_order}
use Rattle.credential.specs.Memberships.{place}
use Rattle.model.proofs.Places.{same_place}
use Rattle.history.specs.Events.{Making, History}
use Rattle.history.specs.Words.{total, HasItemAt, one_if, Lease, leases, ended, held}
use Rattle.history.specs.Contents.{Contents, record_of, opened, Keeps}
use Rattle.history.specs.Promise.{OpenLease}
use Rattle.history.proofs.Sums.{total-at}
use Rattle.history.proofs.Leases.{weighed, the_lease, orderly}
use Rattle.history.proofs.Keeping.{opened_of, in_book_most}
use Rattle.history.proofs.Reading.{yes_if, same_bool, find_record, find_lease, from_record}

-- two places add both weights
two_at : {X : Type 0} (w : X → ℕ) (xs : List X) (i j : ℕ) (x y : X) → i < j → HasItemAt xs i x → HasItemAt xs j y → w x + w y ≤ total w xs
two_at w [] i j x y l a b = absurd (not-suc-le-zero a.0)
two_at w (z ∷ xs) i zero x y l a b = absurd (not-suc-le-zero l)
two_at w (z ∷ xs) zero (suc j) x y l a b = omega (arith, ap w (a.1 z), total-at w xs j y (le_of_suc-le-suc b.0, b.1))
two_at w (z ∷ xs) (suc i) (suc j) x y l a b =
    omega (arith, two_at w xs i j x y (le_of_suc-le-suc l) (le_of_suc-le-suc a.0, a.1) (le_of_suc-le-suc b.0, b.1))

-- 1 for this lease in this state alone
abbrev alike : Lease → Bool → Lease → Bool → ℕ
alike l s x b = one_if (eqb x.serial l.serial && (eqb (place x.membership) (place l.membership) && eqb (one_if b) (one_if s)))

alike_self : (l : Lease) (s : Bool) → alike l s l s ≡ 1
alike_self l s = rw (eq-eqb l.serial l.serial refl, eq-eqb (place l.membership) (place l.membership) refl, eq-eqb (one_if s) (one_if s) refl)

alike_same : (l : Lease) (s : Bool) (x : Lease) (b : Bool) → 1 ≤ alike l s x b → (x ≡ l) × (b ≡ s)
alike_same l s x b e =
    let p = and_parts (eqb x.serial l.serial) (eqb (place x.membership) (place l.membership) && eqb (one_if b) (one_if s)) (yes_if _ e) in
    let q = and_parts (eqb (place x.membership) (place l.membership)) (eqb (one_if b) (one_if s)) p.1 in
    let u : x.serial ≡ l.serial = eqb-true x.serial l.serial p.0 in
    let v : x.membership ≡ l.membership = same_place x.membership l.membership (eqb-true _ _ q.0) in
    ((λ i. record { serial = u i; membership = v i }), same_bool b s q.1)

module _ (k : Making) (h : History) (v : Contents) (a : Keeps k h v) where
  pub to_record : (l : Lease) (s : Bool) → OpenLease h l s → (i : ℕ) × HasItemAt v.book i (record_of s l)
  to_record l s o =
      let c = total-at (λ (x : Lease). cond (ended h x.serial) 0 (alike l s x (held h x.serial))) (leases h) o.0.0 l o.0.1 in
      let e : cond (ended h l.serial) 0 (alike l s l (held h l.serial)) ≡ 1 = rw (o.1, o.2) (alike_self l s) in
      let f = find_record k h v a (alike l s) (omega (arith, c, e)) in
      let p = alike_same l s f.2 f.1 f.4 in
      (f.0, subst (HasItemAt v.book f.0) (λ i. record_of (p.1 i) (p.0 i)) f.3)

  pub of_record : (l : Lease) (s : Bool) (i : ℕ) → HasItemAt v.book i (record_of s l) → OpenLease h l s
  of_record l s i at =
      let f = find_lease k h v a (alike l s) i s l at (omega (arith, alike_self l s)) in
      let p = alike_same l s f.1 (held h f.1.serial) f.4 in (
        (f.0, subst (HasItemAt (leases h) f.0) p.0 f.2),
        subst (λ (x : Lease). ended h x.serial ≡ false) p.0 f.3,
        subst (λ (x : Lease). held h x.serial ≡ s) p.0 p.1,
      )

  -- two records of one serial would weigh two
  apart : (i j : ℕ) (l m : Lease) (s t : Bool) → HasItemAt v.book i (record_of s l) → HasItemAt v.book j (record_of t m) → l.serial ≡ m.serial → i < j → ⊥
  apart i j l m s t x y e o =
      let n = l.serial in
      let w : Lease → Bool → ℕ = λ z b. weighed n (λ _. 1) z in
      let c = two_at (opened w) v.book i j (record_of s l) (record_of t m) o x y in
      let p : opened w (record_of s l) ≡ 1 = opened_of w s l ∙ rw (eq-eqb l.serial l.serial refl) in
      let q : opened w (record_of t m) ≡ 1 = opened_of w t m ∙ rw (eq-eqb m.serial l.serial (sym e)) in
      let g = the_lease n (leases h) (orderly k h a.conforms).0 (from_record k h v a n i s l x refl).0.0 in
      omega (arith, c, p, q, in_book_most k h v a n (λ _. 1), g.3 (λ _. 1))

  pub once : (i j : ℕ) (l m : Lease) (s t : Bool) → HasItemAt v.book i (record_of s l) → HasItemAt v.book j (record_of t m) → l.serial ≡ m.serial → i ≡ j
  once i j l m s t x y e = go (cases_order i j)
    where
      go : (i ≡ j) ⊎ ((i < j) ⊎ (j < i)) → i ≡ j
      go (inl q) = q
      go (inr (inl o)) = absurd (apart i j l m s t x y e o)
      go (inr (inr o)) = absurd (apart j i m l t s y x (sym e) o)
