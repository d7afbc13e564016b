-- What the calls of a register give, by their tests.
use Rattle.std.proofs.Common.{◌≡◌, ℕ, ◌-◌, ◌<◌, ◌≤◌, Bool, true, false, cond, eqb, leb, ◌&&◌, List, [], ◌∷◌, ◌++◌, length, take, drop, Ok, Err, Result, sym, refl, ap, ◌∙◌, ⊎_elim, arith, leb-true}
use Rattle.std.proofs.lemmas.Bool.{cases_lt, eq-eqb}
use Rattle.credential.specs.declared.credentials.Credential.{Credential}
use Rattle.credential.specs.Refusals.{Named, refused}
use Rattle.register.specs.Standing.{stands}
use Rattle.register.specs.Registers.{becoming, admitted, roomy, appended, published, located, withdrawn}

-- putting at the end, by the test of the count against the capacity
module _ (limit : ℕ) (xs : List Credential) (c : Credential) (n : ℕ) (l : n ≡ length xs) where
  tested : roomy n limit ≡ roomy (length xs) limit
  tested = ap (λ (k : ℕ). roomy k limit) l

  pub appended_refused : {e : Named} → Err e ≡ roomy n limit → (Err e ≡ (appended limit xs c).answer) × (xs ≡ (appended limit xs c).list)
  unfolding appended
  appended_refused {e} a = rw (← (a ∙ tested)) (refl, refl)

  pub appended_taken : Ok tt ≡ roomy n limit → (Ok tt ≡ (appended limit xs c).answer) × (xs ++ c ∷ [] ≡ (appended limit xs c).list)
  unfolding appended
  appended_taken a = rw (← (a ∙ tested)) (refl, refl)

-- publishing refuses what stands, and else puts it at the end
module _ (limit : ℕ) (xs : List Credential) (c : Credential) where
  pub published_standing : true ≡ stands xs c → (Err (refused 6) ≡ (published limit xs c).answer) × (xs ≡ (published limit xs c).list)
  unfolding published
  published_standing s = rw (← s) (refl, refl)

  pub published_appended : false ≡ stands xs c → appended limit xs c ≡ published limit xs c
  unfolding published appended
  published_appended s = rw (← s) refl

-- publishing, by the tests whether the credential stands and whether the register is full
pub published-is : (capacity : ℕ) (xs : List Credential) (c : Credential) (standing full : Bool) {r : Result (Unit {0}) Named}
    → r ≡ admitted standing full → standing ≡ stands xs c → full ≡ eqb (length xs) capacity → published capacity xs c ≡ becoming xs (xs ++ c ∷ []) r
unfolding published
published-is capacity xs c standing full a s l =
    ap (λ (t : Bool). becoming xs (xs ++ c ∷ []) (admitted t (eqb (length xs) capacity))) (sym s)
    ∙ ap (λ (t : Bool). becoming xs (xs ++ c ∷ []) (admitted standing t)) (sym l)
    ∙ ap (becoming xs (xs ++ c ∷ [])) (sym a)

-- withdrawing, by the test of the place against the count
pub withdrawn-is : (xs : List Credential) (p n : ℕ) {r : Result (Unit {0}) Named}
    → r ≡ located p n → n ≡ length xs → withdrawn xs p ≡ becoming xs (take (p - 1) xs ++ drop p xs) r
unfolding withdrawn
withdrawn-is xs p n a l =
    ap (λ (m : ℕ). becoming xs (take (p - 1) xs ++ drop p xs) (located p m)) (sym l)
    ∙ ap (becoming xs (take (p - 1) xs ++ drop p xs)) (sym a)

module _ (xs : List Credential) (p n : ℕ) (l : n ≡ length xs) where
  found : located p n ≡ located p (length xs)
  found = ap (located p) l

  pub withdrawn_refused : {e : Named} → Err e ≡ located p n → (Err e ≡ (withdrawn xs p).answer) × (xs ≡ (withdrawn xs p).list)
  unfolding withdrawn
  withdrawn_refused a = rw (← (a ∙ found)) (refl, refl)

  pub withdrawn_taken : Ok tt ≡ located p n → (Ok tt ≡ (withdrawn xs p).answer) × (take (p - 1) xs ++ drop p xs ≡ (withdrawn xs p).list)
  unfolding withdrawn
  withdrawn_taken a = rw (← (a ∙ found)) (refl, refl)

never : {n : ℕ} {P : Type 0} → ◌≡◌ {A = Result (Unit {0}) Named} (Ok tt) (Err (refused n)) → P
never q = let z : ◌≡◌ {A = ℕ} 0 1 = cc in absurd (omega arith)

-- a register that admits is not full
pub admitted_room : (standing full : Bool) (n capacity : ℕ) → Ok tt ≡ admitted standing full → full ≡ eqb n capacity → n ≡ capacity → ⊥
admitted_room true full n capacity a l e = never a
admitted_room false full n capacity a l e = never (a ∙ ap (admitted false) (l ∙ eq-eqb n capacity e))

-- a register with room is not full
pub room-within : (n most : ℕ) → Ok tt ≡ roomy n most → n ≤ most → n < most
room-within n most a h =
    ⊎_elim (λ (l : n < most). l)
    (λ (g : most ≤ n). let e : n ≡ most = omega arith in absurd (admitted_room false (eqb n most) n most a refl e))
    (cases_lt n most)

-- a place that is located is within the count
pub located-within : (p n : ℕ) → Ok tt ≡ located p n → (1 ≤ p) × (p ≤ n)
located-within p n a = go (leb 1 p) (leb p n) refl refl a
  where
    go : (l h : Bool) → leb 1 p ≡ l → leb p n ≡ h → ◌≡◌ {A = Result (Unit {0}) Named} (Ok tt) (cond (l && h) (Ok tt) (Err (refused 8))) → (1 ≤ p) × (p ≤ n)
    go true true l h q = (leb-true 1 p l, leb-true p n h)
    go true false l h q = never q
    go false true l h q = never q
    go false false l h q = never q
