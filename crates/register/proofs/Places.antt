-- What stands at a place of a list of any items, for a register that keeps them one by one.
use Rattle.std.proofs.Common.{◌≡◌, ℕ, zero, suc, ◌-◌, ◌<◌, ◌≤◌, true, false, cond, eqb, List, [], ◌∷◌, map, length, get_or, Some, None, refl, arith, eq-eqb, ne_eqb}
use Rattle.std.specs.Option.{option_map}
use Rattle.std.specs.List.{slice_get}
use Rattle.std.proofs.lemmas.Option.{slice_get_read, slice_get_past}
use Rattle.credential.specs.Sources.{placed}

pub placed_some : {X : Type 0} (xs : List X) (n p : ℕ) (x : X) → n ≡ length xs → (p ≡ 0 → ⊥) → p ≤ n → x ≡ get_or xs (p - 1) x → placed xs p ≡ Some x
placed_some xs n p x l h k e =
    let lt : p - 1 < n = omega arith in
    rw (ne_eqb p 0 h) (slice_get_read xs n (p - 1) x l lt e)

pub placed_zero : {X : Type 0} (xs : List X) (p : ℕ) → p ≡ 0 → placed xs p ≡ None
placed_zero xs p h = rw (eq-eqb p 0 h) refl

pub placed_past : {X : Type 0} (xs : List X) (p : ℕ) → length xs < p → placed xs p ≡ None
placed_past xs p h =
    let ne : p ≡ 0 → ⊥ = λ z. omega arith in
    let le : length xs ≤ p - 1 = omega arith in
    rw (ne_eqb p 0 ne) (slice_get_past xs (p - 1) le)

nth_map : {X Y : Type 0} (f : X → Y) (xs : List X) (i : ℕ) → slice_get (map f xs) i ≡ option_map f (slice_get xs i)
nth_map f [] i = refl
nth_map f (x ∷ xs) zero = refl
nth_map f (x ∷ xs) (suc i) = nth_map f xs i

-- a source over a source, as a context is, has at a place what it makes of what stands there
pub placed-map : {X Y : Type 0} (f : X → Y) (xs : List X) (p : ℕ) → placed (map f xs) p ≡ option_map f (placed xs p)
placed-map f xs p =
    elim (eqb p 0) as (λ b. cond b None (slice_get (map f xs) (p - 1)) ≡ option_map f (cond b None (slice_get xs (p - 1))))
    [ true ↦ refl | false ↦ nth_map f xs (p - 1) ]
