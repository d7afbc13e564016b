-- Local rules by which a certificate is the least one.
use Rattle.std.proofs.Common.{ℕ, zero, suc, ◌<◌, ◌≤◌, ◌⊎◌, List, inl, inr, le_refl, arith}
use Rattle.credential.specs.declared.credentials.Credential.{Credential}
use Rattle.credential.specs.declared.memberships.Membership.{Membership}
use Rattle.model.specs.Clauses.{Body, Every, AnyOf, IfNegated, HasNegated, Clause}
use Rattle.model.specs.Stages.{stage, Supported}
use Rattle.model.specs.Tables.{Table, number, IsT, IsF, IsU, Certifies, Least}
use Rattle.model.proofs.Bodies.{clash}
use Rattle.model.proofs.Soundness.{true→T, false→F, undefined→U, T→true, F→false, U→supported}

-- `rank` orders the F entries of one number by the clauses that kept them from being false earlier
module _ (creds : List Credential) (t : Table) (rank : Membership → ℕ) where
  abbrev pub TFirst : Membership → Type 0
  TFirst m =
      (number t m ≤ 1)
      ⊎ ((o : Body)
      → Clause creds m o
      → AnyOf (λ p. (¬ (IsT t p)) ⊎ (number t m ≤ suc (number t p))) o.positive
      ⊎ HasNegated (λ q. (¬ (IsF t q)) ⊎ (number t m ≤ suc (number t q))) o.negated)

  abbrev pub FFirst : Membership → Type 0
  FFirst m =
      (number t m ≤ 1)
      ⊎ ((o : Body)
      × Clause creds m o
      × (Every (λ p. (¬ (IsF t p)) ⊎ ((number t m ≤ number t p) × (rank p < rank m))) o.positive
      × IfNegated (λ q. (¬ (IsT t q)) ⊎ (number t m ≤ suc (number t q))) o.negated))

  abbrev pub UFirst : Membership → Type 0
  UFirst m =
      (number t m ≤ 1)
      ⊎ ((o : Body)
      → Clause creds m o
      → AnyOf (λ p. IsF t p ⊎ (IsU t p × (number t m ≤ suc (number t p)))) o.positive
      ⊎ HasNegated (IsT t) o.negated)

  module _ (c : Certifies creds t) (tf : (m : Membership) → IsT t m → TFirst m) (ff : (m : Membership) → IsF t m → FFirst m) (uf : (m : Membership) → IsU t m → UFirst m) where
    abbrev Bounds : ℕ → Type 0
    Bounds k = ((m : Membership) → (stage creds k).True m → number t m ≤ k) × ((m : Membership) → (stage creds k).False m → number t m ≤ k)

    bound_T : (k : ℕ) → Bounds k → (m : Membership) → (stage creds (suc k)).True m → number t m ≤ suc k
    bound_T k ih m x = go (tf m (true→T creds t c m (suc k, x)))
      where
        go : TFirst m → number t m ≤ suc k
        go (inl h) = omega arith
        go (inr h) =
            clash
            x.0
            x.2
            x.3
            (h x.0 x.1)
            (λ p tp.
            elim
            [ inl not_T ↦ absurd (not_T (true→T creds t c p (k, tp))) | inr b ↦ let y : number t p ≤ k = ih.0 p tp in omega arith ])
            (λ q fq.
            elim
            [ inl not_F ↦ absurd (not_F (false→F creds t c q (k, fq))) | inr b ↦ let y : number t q ≤ k = ih.1 q fq in omega arith ])

    bound_F : (k : ℕ) → Bounds k → (r : ℕ) (m : Membership) → rank m < r → (stage creds (suc k)).False m → number t m ≤ suc k
    bound_F k ih zero m l x = absurd (omega arith)
    bound_F k ih (suc r) m l x = go (λ p b y. bound_F k ih r p b y) (ff m (false→F creds t c m (suc k, x)))
      where
        go : ((p : Membership) → rank p < r → (stage creds (suc k)).False p → number t p ≤ suc k) → FFirst m → number t m ≤ suc k
        go rec (inl h) = omega arith
        go rec (inr h) =
            clash
            h.0
            h.2.0
            h.2.1
            (x.2 m x.1 h.0 h.1)
            (λ p.
            elim [
              | inl not_F ↦
                  elim [ inl fp ↦ absurd (not_F (false→F creds t c p (k, fp))) | inr gp ↦ absurd (not_F (false→F creds t c p (suc k, (x.0, gp, x.2)))) ]
              | inr b ↦
                  let b0 : number t m ≤ number t p = b.0 in
                  let b1 : rank p < rank m = b.1 in
                  elim [
                    | inl fp ↦ let y : number t p ≤ k = ih.1 p fp in omega arith
                    | inr gp ↦ let y : number t p ≤ suc k = rec p (omega arith) (x.0, gp, x.2) in omega arith
                  ]
            ])
            (λ q.
            elim [
              | inl not_T ↦ λ tq. absurd (not_T (true→T creds t c q (k, tq)))
              | inr b ↦ λ tq. let y : number t q ≤ k = ih.0 q tq in omega arith
            ])

    bounds : (k : ℕ) → Bounds k
    bounds zero = (λ m x. absurd x, λ m x. absurd x)
    bounds (suc k) = (bound_T k (bounds k), λ m x. bound_F k (bounds k) (suc (rank m)) m (le_refl (suc (rank m))) x)

    bound_U : (k : ℕ) (m : Membership) → Supported creds k m → number t m ≤ k
    bound_U zero m x = absurd x
    bound_U (suc k) m x = go (λ p s. bound_U k p s) (uf m (undefined→U creds t c m x.0))
      where
        unclear : (j : ℕ) (p : Membership) → Supported creds j p → IsU t p
        unclear zero p s = absurd s
        unclear (suc j) p s = undefined→U creds t c p s.0

        go : ((p : Membership) → Supported creds k p → number t p ≤ k) → UFirst m → number t m ≤ suc k
        go rec (inl h) = omega arith
        go rec (inr h) =
            clash
            x.1.0
            x.1.2
            x.1.3
            (h x.1.0 x.1.1)
            (λ p.
            elim [
              | inl tp ↦
                  let e : IsT t p = true→T creds t c p tp in
                  elim [ inl f ↦ let f' : IsF t p = f in absurd (omega arith) | inr u ↦ let u' : IsU t p = u.0 in absurd (omega arith) ]
              | inr s ↦
                  let e : IsU t p = unclear k p s in
                  elim [
                    | inl f ↦ let f' : IsF t p = f in absurd (omega arith)
                    | inr u ↦ let b : number t m ≤ suc (number t p) = u.1 in let y : number t p ≤ k = rec p s in omega arith
                  ]
            ])
            (λ q not_true e. absurd (not_true (number t q, T→true creds t c q e)))

    pub least : Least creds t
    least =
        record {
          sizes = c.sizes;
          lawful = c.lawful;
          true_ones = λ m e. (T→true creds t c m e, λ k x. (bounds k).0 m x);
          false_ones = λ m e. (F→false creds t c m e, λ k x. (bounds k).1 m x);
          undefined_ones = λ m e. (U→supported creds t c m e, λ k x. bound_U k m x);
        }
