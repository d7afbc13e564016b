-- What the calls on a vault's register are in its history.
use Rattle.std.proofs.Common.{◌≡◌, ℕ, ◌-◌, ◌≤◌, Bool, true, false, cond, ◌&&◌, ◌||◌, eqb, leb, List, [], ◌∷◌, ◌++◌, length, take, drop, Ok, Err, Decides, Result, sym, refl, ap, ◌∙◌, subst, inl, inr, arith}
use mathlib.Core.Option.{Option, none}
use Rattle.std.proofs.lemmas.List.{length-append}
use Rattle.std.proofs.lemmas.Bool.{eqb-true, leb-true, leb-false}
use Rattle.credential.specs.declared.credentials.Credential.{Credential}
use Rattle.credential.specs.Refusals.{Named, refused}
use Rattle.model.specs.Clauses.{Among}
use Rattle.register.specs.Standing.{same, stands}
use Rattle.register.specs.Registers.{Outcome, becoming, admitted, published, withdrawn}
use Rattle.register.proofs.Equality.{same_decides}
use Rattle.history.specs.Events as events
use Rattle.history.specs.Events.{Event, call, HasCall}
use Rattle.history.specs.Law.{Due, already_stands, register_full, no_such_place}
use Rattle.history.specs.Contents.{Contents}
use Rattle.history.specs.Steps.{relisted, After, seen}
use Rattle.history.proofs.Judging.{steps_keep}
use Rattle.vault.specs.Vaults.{Happened}

-- an event that was due, with what it left
pub happened : (v w : Contents) (e : Event) → HasCall v.kind (call e) → Due (seen v) e → After v e w → Happened v e w
happened v w e h d a = record { due = d; after = a; kept = steps_keep v w e h d a }

pub never : {P : Type 0} {u : Unit {0}} {e : Named} → ◌≡◌ {A = Result (Unit {0}) Named} (Ok u) (Err e) → P
never q = let z : ◌≡◌ {A = ℕ} 0 1 = cc in absurd (omega arith)

pub same_refusal : {e f : Named} → ◌≡◌ {A = Result (Unit {0}) Named} (Err e) (Err f) → e ≡ f
same_refusal q = cc

-- a credential stands exactly if it is among those of the list
stands-among : (xs : List Credential) (c : Credential) → Decides (stands xs c) (Among c xs)
stands-among [] c = ((λ q. let z : ◌≡◌ {A = ℕ} 0 1 = cc in absurd (omega arith)), λ n. absurd n)
stands-among (x ∷ xs) c = go (same x c) refl (stands-among xs c)
  where
    go : (b : Bool) → same x c ≡ b → Decides (stands xs c) (Among c xs) → Decides (b || stands xs c) (Among c (x ∷ xs))
    go true e d = ((λ q. inl (sym ((same_decides x c).0 e))), λ n. refl)
    go false e d = ((λ q. inr (d.0 q)), elim_among)
      where
        elim_among : Among c (x ∷ xs) → stands xs c ≡ true
        elim_among (inl q) = let n : same x c ≡ true = (same_decides x c).1 (sym q) in let z : ◌≡◌ {A = ℕ} 0 1 = cc in absurd (omega arith)
        elim_among (inr n) = d.1 n

not_among : (xs : List Credential) (c : Credential) → stands xs c ≡ false → ¬ (Among c xs)
not_among xs c q n = let t : stands xs c ≡ true = (stands-among xs c).1 n in let z : ◌≡◌ {A = ℕ} 0 1 = cc in absurd (omega arith)

module _ (v : Contents) (c : Credential) (r : Result (Unit {0}) Named) (ys : List Credential)
    (a : r ≡ (published v.capacity v.list c).answer) (l : ys ≡ (published v.capacity v.list c).list) where
  pub publish_taken : (ks : Option (List ℕ)) → ks ≡ none → {u : Unit {0}} → r ≡ Ok u → length ys ≤ v.capacity → Happened v (events.published c) (relisted ys ks v)
  unfolding published
  publish_taken ks k q w = go (stands v.list c) (eqb (length v.list) v.capacity) refl refl (sym q ∙ a) l
    where
      go : (s f : Bool) → stands v.list c ≡ s → eqb (length v.list) v.capacity ≡ f → Ok tt ≡ (becoming v.list (v.list ++ c ∷ []) (admitted s f)).answer
          → ys ≡ (becoming v.list (v.list ++ c ∷ []) (admitted s f)).list → Happened v (events.published c) (relisted ys ks v)
      go true f s e p m = never p
      go false true s e p m = never p
      go false false s e p m =
          happened v (relisted ys ks v) (events.published c) tt
          (not_among v.list c s, omega (arith, w, ap length m, length-append v.list (c ∷ [])))
          (λ j. relisted (m j) (k j) v)

  pub publish-refused : (e : Named) → r ≡ Err e → Happened v (events.refused (events.publish c) e) (relisted ys v.kept v)
  unfolding published
  publish-refused e q = go (stands v.list c) (eqb (length v.list) v.capacity) refl refl (sym q ∙ a) l
    where
      left : (f : Named) → e ≡ f → ys ≡ v.list → Due (seen v) (events.refused (events.publish c) f) → Happened v (events.refused (events.publish c) e) (relisted ys v.kept v)
      left f p m d =
          subst (λ (x : Named). Happened v (events.refused (events.publish c) x) (relisted ys v.kept v)) (sym p)
          (happened v (relisted ys v.kept v) (events.refused (events.publish c) f) tt d (ap (λ (zs : List Credential). relisted zs v.kept v) m))

      go : (s f : Bool) → stands v.list c ≡ s → eqb (length v.list) v.capacity ≡ f → Err e ≡ (becoming v.list (v.list ++ c ∷ []) (admitted s f)).answer
          → ys ≡ (becoming v.list (v.list ++ c ∷ []) (admitted s f)).list → Happened v (events.refused (events.publish c) e) (relisted ys v.kept v)
      go true f s n p m = left (refused 6) (same_refusal p) m (already_stands ((stands-among v.list c).0 s))
      go false true s n p m = left (refused 7) (same_refusal p) m (register_full (not_among v.list c s) (eqb-true (length v.list) v.capacity n))
      go false false s n p m = never (sym p)

module _ (v : Contents) (p : ℕ) (r : Result (Unit {0}) Named) (ys : List Credential)
    (a : r ≡ (withdrawn v.list p).answer) (l : ys ≡ (withdrawn v.list p).list) where
  abbrev left_of : Bool → Outcome
  left_of b = becoming v.list (take (p - 1) v.list ++ drop p v.list) (cond b (Ok tt) (Err (refused 8)))

  pub withdraw_taken : (ks : Option (List ℕ)) → ks ≡ none → {u : Unit {0}} → r ≡ Ok u → Happened v (events.withdrawn p) (relisted ys ks v)
  unfolding withdrawn
  withdraw_taken ks k q = go (leb 1 p) (leb p (length v.list)) refl refl (sym q ∙ a) l
    where
      go : (s t : Bool) → leb 1 p ≡ s → leb p (length v.list) ≡ t → Ok tt ≡ (left_of (s && t)).answer → ys ≡ (left_of (s && t)).list → Happened v (events.withdrawn p) (relisted ys ks v)
      go true true s t e m =
          happened v (relisted ys ks v) (events.withdrawn p) tt (leb-true 1 p s, leb-true p (length v.list) t) (λ j. relisted (m j) (k j) v)
      go true false s t k m = never k
      go false true s t k m = never k
      go false false s t k m = never k

  pub withdraw-refused : (e : Named) → r ≡ Err e → Happened v (events.refused (events.withdraw p) e) (relisted ys v.kept v)
  unfolding withdrawn
  withdraw-refused e q = go (leb 1 p) (leb p (length v.list)) refl refl (sym q ∙ a) l
    where
      left : ¬ ((1 ≤ p) × (p ≤ length v.list)) → e ≡ refused 8 → ys ≡ v.list → Happened v (events.refused (events.withdraw p) e) (relisted ys v.kept v)
      left n k m =
          subst (λ (x : Named). Happened v (events.refused (events.withdraw p) x) (relisted ys v.kept v)) (sym k)
          (happened v (relisted ys v.kept v) (events.refused (events.withdraw p) (refused 8)) tt (no_such_place n) (ap (λ (zs : List Credential). relisted zs v.kept v) m))

      go : (s t : Bool) → leb 1 p ≡ s → leb p (length v.list) ≡ t → Err e ≡ (left_of (s && t)).answer → ys ≡ (left_of (s && t)).list → Happened v (events.refused (events.withdraw p) e) (relisted ys v.kept v)
      go true true s t k m = never (sym k)
      go true false s t k m = left (λ w. omega (arith, leb-false p (length v.list) t, w.1)) (same_refusal k) m
      go false true s t k m = left (λ w. omega (arith, leb-false 1 p s, w.0)) (same_refusal k) m
      go false false s t k m = left (λ w. omega (arith, leb-false 1 p s, w.0)) (same_refusal k) m
