-- Collecting answers one after another, up to the first refusal.
use Rattle.std.proofs.Common.{◌≡◌, ℕ, zero, suc, ◌+◌, ◌-◌, ◌<◌, ◌≤◌, List, [], ◌∷◌, ◌++◌, length, take, set, Some, Ok, Err, Result, sym, refl, ap, ◌∙◌, subst, append_assoc, le_of_suc-le-suc, not-suc-le-zero, arith, length-set}
use Rattle.std.proofs.lemmas.List.{append-nil, take_more_set, take_all}
use Rattle.std.specs.List.{slice_get}
use Rattle.credential.specs.Refusals.{Named, on_ok}
use Rattle.credential.proofs.Building.{on_ok_lem}
use Rattle.page.specs.Lines.{collected}

-- what is still to come goes behind what was collected
abbrev pub behind : {X : Type 0} → List X → Result (List X) Named → Result (List X) Named
behind us r = on_ok r (λ xs. Ok (us ++ xs))

behind_cons : {X : Type 0} (us : List X) (x : X) (r : Result (List X) Named) → behind us (on_ok r (λ xs. Ok (x ∷ xs))) ≡ behind (us ++ x ∷ []) r
behind_cons {X} us x (Ok xs) = ap (λ (t : List X). Ok t) (sym (append_assoc us (x ∷ []) xs))
behind_cons us x (Err e) = refl

behind_none : {X : Type 0} (r : Result (List X) Named) → r ≡ behind [] r
behind_none (Ok xs) = refl
behind_none (Err e) = refl

module _ {X : Type 0} (n : ℕ) (f : ℕ → Result X Named) where
  pub collect_none : collected n f 0 ≡ behind [] (collected (n - 0) f 0)
  collect_none = ap (λ (m : ℕ). collected m f 0) (omega arith) ∙ behind_none (collected (n - 0) f 0)

  module _ (k : ℕ) (us : List X) (r : Result (List X) Named) (h : k < n) (q : r ≡ behind us (collected (n - k) f k)) where
    step : r ≡ behind us (on_ok (f k) (λ x. on_ok (collected (n - (k + 1)) f (k + 1)) (λ xs. Ok (x ∷ xs))))
    unfolding collected
    step = let m : n - k ≡ suc (n - (k + 1)) = omega arith in q ∙ ap (λ (j : ℕ). behind us (collected j f k)) m

    pub collect_more : (x : X) → f k ≡ Ok x → r ≡ behind (us ++ x ∷ []) (collected (n - (k + 1)) f (k + 1))
    collect_more x e =
        step ∙ ap (λ (a : Result X Named). behind us (on_ok a (λ x. on_ok (collected (n - (k + 1)) f (k + 1)) (λ xs. Ok (x ∷ xs))))) e
        ∙ behind_cons us x (collected (n - (k + 1)) f (k + 1))

    pub collect_stop : (d : Named) → f k ≡ Err d → r ≡ Err d
    collect_stop d e = step ∙ ap (λ (a : Result X Named). behind us (on_ok a (λ x. on_ok (collected (n - (k + 1)) f (k + 1)) (λ xs. Ok (x ∷ xs))))) e

  pub collect_all : (k : ℕ) (us : List X) (r : Result (List X) Named) → n ≤ k → r ≡ behind us (collected (n - k) f k) → r ≡ Ok us
  unfolding collected
  collect_all k us r h q =
      let z : n - k ≡ 0 = omega arith in
      q ∙ ap (λ (j : ℕ). behind us (collected j f k)) z ∙ ap (λ (t : List X). Ok t) (append-nil us)

-- what was collected, place by place
pub collect_at : {X : Type 0} (n : ℕ) (f : ℕ → Result X Named) (k : ℕ) (xs : List X) → collected n f k ≡ Ok xs
    → (length xs ≡ n) × ((i : ℕ) → i < n → (x : X) × (f (k + i) ≡ Ok x) × (slice_get xs i ≡ Some x))
unfolding collected
collect_at {X} zero f k xs e = let q : [] ≡ xs = cc in (ap length (sym q), λ i h. absurd (not-suc-le-zero h))
collect_at {X} (suc n) f k xs e =
    let p = on_ok_lem (f k) _ xs e in
    let q = on_ok_lem (collected n f (k + 1)) _ xs p.2 in
    let w : p.0 ∷ q.0 ≡ xs = (let e2 = q.2 in cc) in
    let more = collect_at n f (k + 1) q.0 q.1 in
    subst (λ (us : List X). (length us ≡ suc n) × ((i : ℕ) → i < suc n → (x : X) × (f (k + i) ≡ Ok x) × (slice_get us i ≡ Some x))) w
    (ap (λ (i : ℕ). suc i) more.0, each f k n p.0 q.0 p.1 more.1)
  where
    each : {X : Type 0} (f : ℕ → Result X Named) (k n : ℕ) (y : X) (us : List X) → f k ≡ Ok y
        → ((i : ℕ) → i < n → (x : X) × (f (k + 1 + i) ≡ Ok x) × (slice_get us i ≡ Some x))
        → (i : ℕ) → i < suc n → (x : X) × (f (k + i) ≡ Ok x) × (slice_get (y ∷ us) i ≡ Some x)
    each f k n y us e more zero h = (y, ap f (omega arith) ∙ e, refl)
    each f k n y us e more (suc i) h = let r = more i (le_of_suc-le-suc h) in (r.0, ap f (omega arith) ∙ r.1, r.2)

-- the same, where the answers are kept in the front of an array
module _ {X : Type 0} (n : ℕ) (f : ℕ → Result X Named) (k : ℕ) (us : List X) (r : Result (List X) Named) (l : length us ≡ n)
    (q : r ≡ behind (take k us) (collected (n - k) f k)) where
  pub array_more : (x : X) → k < n → f k ≡ Ok x
      → (r ≡ behind (take (k + 1) (set us k x)) (collected (n - (k + 1)) f (k + 1))) × (length (set us k x) ≡ n)
  array_more x h e = (
    collect_more n f k (take k us) r h q x e
        ∙ ap (λ (t : List X). behind t (collected (n - (k + 1)) f (k + 1))) (sym (take_more_set us k x (omega arith))),
    length-set us k x ∙ l,
  )

  pub array_all : n ≤ k → r ≡ Ok us
  array_all h = collect_all n f k (take k us) r h q ∙ ap (λ (t : List X). Ok t) (take_all k us (omega arith))
