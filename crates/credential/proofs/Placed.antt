-- What stands at the places of a source.
use Rattle.std.proofs.Common.{◌≡◌, ℕ, zero, suc, ◌+◌, ◌-◌, ◌<◌, eqb, List, [], ◌∷◌, length, drop, Some, None, sym, refl, ap, ◌∙◌, arith}
use Rattle.std.proofs.lemmas.Bool.{ne_eqb, cond-false}
use Rattle.std.proofs.lemmas.Option.{slice_get_within}
use Rattle.std.specs.List.{slice_get}
use Rattle.credential.specs.Sources.{placed}

pub placed_next : {X : Type 0} (xs : List X) (i : ℕ) → placed xs (i + 1) ≡ slice_get xs i
placed_next xs i =
    let e : i + 1 - 1 ≡ i = omega arith in
    cond-false (eqb (i + 1) 0) None (slice_get xs (i + 1 - 1)) (ne_eqb (i + 1) 0 (λ (z : i + 1 ≡ 0). omega arith)) ∙ ap (slice_get xs) e

-- the first of those that are left
first_of : {X : Type 0} (xs : List X) (i : ℕ) (x : X) → slice_get xs i ≡ Some x → drop i xs ≡ x ∷ drop (suc i) xs
first_of [] i x e = absurd (let z : ◌≡◌ {A = ℕ} 0 1 = cc in omega arith)
first_of (y ∷ xs) zero x e = let s : y ≡ x = cc in ap (λ z. z ∷ xs) s
first_of (y ∷ xs) (suc i) x e = first_of xs i x e

pub first_left : {X : Type 0} (xs : List X) (i : ℕ) (x : X) → placed xs (i + 1) ≡ Some x → drop i xs ≡ x ∷ drop (i + 1) xs
first_left xs i x e =
    let n : suc i ≡ i + 1 = omega arith in
    first_of xs i x (sym (placed_next xs i) ∙ e) ∙ ap (λ j. x ∷ drop j xs) n

-- none is left
none_of : {X : Type 0} (xs : List X) (i : ℕ) → slice_get xs i ≡ None → drop i xs ≡ []
none_of [] zero e = refl
none_of [] (suc i) e = refl
none_of (y ∷ xs) zero e = absurd (let z : ◌≡◌ {A = ℕ} 0 1 = cc in omega arith)
none_of (y ∷ xs) (suc i) e = none_of xs i e

pub none_left : {X : Type 0} (xs : List X) (i : ℕ) → placed xs (i + 1) ≡ None → drop i xs ≡ []
none_left xs i e = none_of xs i (sym (placed_next xs i) ∙ e)

pub placed_within : {X : Type 0} (xs : List X) (i : ℕ) (x : X) → placed xs (i + 1) ≡ Some x → i < length xs
placed_within xs i x e = slice_get_within xs i x (sym (placed_next xs i) ∙ e)
