-- Sums of weights over lists.
use Rattle.std.proofs.Common.{◌≡◌, ℕ, zero, suc, ◌+◌, ◌<◌, ◌≤◌, ◌⊎◌, List, [], ◌∷◌, length, get_or, set, refl, ap, inl, inr, le_of_suc-le-suc, not-suc-le-zero, arith}
use Rattle.std.specs.List.{AllByRecursion as All}
use Rattle.std.proofs.lemmas.Bool.{cases_lt}
use Rattle.history.specs.Words.{total, HasItemAt}

module _ {X : Type 0} where
  pub total_zero : (xs : List X) → total (λ _. 0) xs ≡ 0
  total_zero [] = refl
  total_zero (x ∷ xs) = omega (arith, total_zero xs)

  pub total_same_all : (u w : X → ℕ) (xs : List X) → All (λ x. u x ≡ w x) xs → total u xs ≡ total w xs
  total_same_all u w [] a = refl
  total_same_all u w (x ∷ xs) a = omega (arith, a.0, total_same_all u w xs a.1)

  -- weights that balance at each have sums that balance
  pub total_balance : (a b c d : X → ℕ) → ((x : X) → a x + b x ≡ c x + d x) → (xs : List X) → total a xs + total b xs ≡ total c xs + total d xs
  total_balance a b c d e [] = refl
  total_balance a b c d e (x ∷ xs) = omega (arith, e x, total_balance a b c d e xs)

  pub total_le : (u w : X → ℕ) → ((x : X) → u x ≤ w x) → (xs : List X) → total u xs ≤ total w xs
  total_le u w f [] = omega arith
  total_le u w f (x ∷ xs) = omega (arith, f x, total_le u w f xs)

  -- one is exchanged
  pub total-set : (w : X → ℕ) (xs : List X) (i : ℕ) (y x : X) → HasItemAt xs i x → total w (set xs i y) + w x ≡ total w xs + w y
  total-set w [] i y x s = absurd (not-suc-le-zero s.0)
  total-set w (z ∷ xs) zero y x s = omega (arith, ap w (s.1 z))
  total-set w (z ∷ xs) (suc i) y x s = omega (arith, total-set w xs i y x (le_of_suc-le-suc s.0, s.1))

  -- each adds its weight
  pub total-at : (w : X → ℕ) (xs : List X) (i : ℕ) (x : X) → HasItemAt xs i x → w x ≤ total w xs
  total-at w [] i x s = absurd (not-suc-le-zero s.0)
  total-at w (z ∷ xs) zero x s = omega (arith, ap w (s.1 z))
  total-at w (z ∷ xs) (suc i) x s = omega (arith, total-at w xs i x (le_of_suc-le-suc s.0, s.1))

  -- where there is a sum, some one has weight
  pub one_at : (w : X → ℕ) (xs : List X) → 1 ≤ total w xs → (i : ℕ) × (x : X) × HasItemAt xs i x × (1 ≤ w x)
  one_at w [] l = absurd (not-suc-le-zero l)
  one_at w (z ∷ xs) l = go (cases_lt 0 (w z)) (one_at w xs)
    where
      go : (0 < w z) ⊎ (w z ≤ 0) → (1 ≤ total w xs → (i : ℕ) × (x : X) × HasItemAt xs i x × (1 ≤ w x)) → (i : ℕ) × (x : X) × HasItemAt (z ∷ xs) i x × (1 ≤ w x)
      go (inl a) r = (0, z, (omega arith, λ d. refl), a)
      go (inr a) r = let f = r (omega arith) in (suc f.0, f.1, (omega (arith, f.2.0), f.2.1), f.3)

  -- where the sum is below the length, there is a first without weight
  pub first_without : (w : X → ℕ) (xs : List X) → total w xs < length xs
      → (i : ℕ) × (x : X) × HasItemAt xs i x × (w x ≡ 0) × ((j : ℕ) (d : X) → j < i → 1 ≤ w (get_or xs j d))
  first_without w [] l = absurd (not-suc-le-zero l)
  first_without w (z ∷ xs) l = go (cases_lt 0 (w z)) (first_without w xs)
    where
      earlier : (i : ℕ) → 0 < w z → ((j : ℕ) (d : X) → j < i → 1 ≤ w (get_or xs j d)) → (j : ℕ) (d : X) → j < suc i → 1 ≤ w (get_or (z ∷ xs) j d)
      earlier i a f zero d l = a
      earlier i a f (suc j) d l = f j d (le_of_suc-le-suc l)

      go : (0 < w z) ⊎ (w z ≤ 0)
          → (total w xs < length xs → (i : ℕ) × (x : X) × HasItemAt xs i x × (w x ≡ 0) × ((j : ℕ) (d : X) → j < i → 1 ≤ w (get_or xs j d)))
          → (i : ℕ) × (x : X) × HasItemAt (z ∷ xs) i x × (w x ≡ 0) × ((j : ℕ) (d : X) → j < i → 1 ≤ w (get_or (z ∷ xs) j d))
      go (inr a) r = (0, z, (omega arith, λ d. refl), omega arith, λ j d b. absurd (not-suc-le-zero b))
      go (inl a) r = let f = r (omega arith) in (suc f.0, f.1, (omega (arith, f.2.0), f.2.1), f.3, earlier f.0 a f.4)
