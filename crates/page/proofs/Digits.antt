-- The steps of writing a number from its last digit, and of reading one from its first column.
use Rattle.std.proofs.Common.{◌≡◌, ℕ, zero, suc, ◌+◌, ◌-◌, ◌*◌, ◌/◌, ◌%◌, ◌^◌, ◌<◌, ◌≤◌, cond, eqb, List, [], ◌∷◌, ◌++◌, length, get_or, drop, set, Some, None, Option, sym, ap, ◌∙◌, subst, append_assoc, lt_of_lt_of_le, not-suc-le-zero, zero-lt-suc, pow-suc, add-one, arith, length-set}
use native.Mathlib.Nat.{pow-le-pow_right}
use Rattle.std.proofs.lemmas.List.{drop-set, drop_all, drop_more, nil_from_length}
use Rattle.std.proofs.lemmas.Bool.Decides.{nat_tests}
use Rattle.credential.specs.Memberships.{on_some}
use Rattle.page.specs.Numerals.{lead, numeral, next, leading}

pub no_columns : (xs : List ℕ) (n : ℕ) → length xs ≡ 0 → xs ≡ numeral (length xs) n
unfolding numeral
no_columns xs n e = nil_from_length xs e ∙ ap (λ (w : ℕ). numeral w n) (sym e)

numeral_start : (xs : List ℕ) (w n : ℕ) → length xs ≡ suc w → lead w (n / 10) ++ drop w (set xs w (48 + n % 10)) ≡ numeral (suc w) n
unfolding numeral
numeral_start xs w n e =
    ap (λ (t : List ℕ). lead w (n / 10) ++ t)
    (drop-set xs w (48 + n % 10) (omega arith) ∙ ap (λ (t : List ℕ). (48 + n % 10) ∷ t) (drop_all (w + 1) xs (omega arith)))

numeral_end : (xs : List ℕ) (n : ℕ) → 0 < length xs → lead (length xs - 1) (n / 10) ++ drop (length xs - 1) (set xs (length xs - 1) (48 + n % 10)) ≡ numeral (length (set xs (length xs - 1) (48 + n % 10))) n
numeral_end xs n h =
    let e : length xs ≡ suc (length xs - 1) = omega arith in
    numeral_start xs (length xs - 1) n e ∙ ap (λ (w : ℕ). numeral w n) (sym (length-set xs (length xs - 1) (48 + n % 10) ∙ e))

pub numeral-last : (xs : List ℕ) (n v : ℕ) → v ≡ 48 + n % 10 → 0 < length xs → lead (length xs - 1) (n / 10) ++ drop (length xs - 1) (set xs (length xs - 1) v) ≡ numeral (length (set xs (length xs - 1) v)) n
numeral-last xs n v e h =
    subst (λ (u : ℕ). lead (length xs - 1) (n / 10) ++ drop (length xs - 1) (set xs (length xs - 1) u) ≡ numeral (length (set xs (length xs - 1) u)) n) (sym e) (numeral_end xs n h)

lead_step : (xs t : List ℕ) (i n v : ℕ) → i < length xs → v ≡ cond (eqb n 0) 32 (48 + n % 10) → lead (suc i) n ++ drop (suc i) xs ≡ t → lead i (n / 10) ++ drop i (set xs i v) ≡ t
unfolding lead
lead_step xs t i n v h e q =
    ap (λ (s : List ℕ). lead i (n / 10) ++ s) (drop-set xs i v h ∙ ap (λ (k : ℕ). v ∷ drop k xs) (add-one i))
    ∙ ap (λ (a : ℕ). lead i (n / 10) ++ (a ∷ drop (suc i) xs)) e
    ∙ sym (append_assoc (lead i (n / 10)) (cond (eqb n 0) 32 (48 + n % 10) ∷ []) (drop (suc i) xs)) ∙ q

pub lead_more : (xs : List ℕ) (i n v w m : ℕ) → 0 < i → i ≤ length xs → v ≡ cond (eqb n 0) 32 (48 + n % 10) → lead i n ++ drop i xs ≡ numeral (length xs) m
    → lead (i - 1) (n / 10) ++ drop (i - 1) (set xs (i - 1) v) ≡ numeral (length (set xs (i - 1) v)) m
lead_more xs i n v w m p h e q =
    let k : i ≡ suc (i - 1) = omega arith in
    lead_step xs (numeral (length (set xs (i - 1) v)) m) (i - 1) n v (omega arith) e
    (subst (λ (j : ℕ). lead j n ++ drop j xs ≡ numeral (length (set xs (i - 1) v)) m) k
    (q ∙ ap (λ (z : ℕ). numeral z m) (sym (length-set xs (i - 1) v))))

pub lead-all : (xs t : List ℕ) (i n : ℕ) → i ≤ 0 → lead i n ++ drop i xs ≡ t → xs ≡ t
unfolding lead
lead-all xs t zero n h q = q
lead-all xs t (suc i) n h q = absurd (not-suc-le-zero h)

-- The steps of reading a number from its first column.

ten_more : (i : ℕ) → 10 ^ (i + 1) ≡ 10 ^ i * 10
ten_more i = ap (λ (k : ℕ). 10 ^ k) (add-one i) ∙ pow-suc 10 i

next-below : (v b u m : ℕ) → next v b ≡ Some u → v < m → u < m * 10
next-below v b u m e h = grind (arith, nat_tests)

module _ (bs : List ℕ) (i v : ℕ) (h : i < length bs) where
  leading_at : leading v (drop i bs) ≡ on_some (next v (get_or bs i 0)) (λ u. leading u (drop (i + 1) bs))
  unfolding leading
  leading_at = ap (λ (t : List ℕ). leading v t) (drop_more bs i 0 h)

  pub leading_more : {r : Option ℕ} (u : ℕ) → next v (get_or bs i 0) ≡ Some u → v < 10 ^ i → r ≡ leading v (drop i bs)
      → (r ≡ leading u (drop (i + 1) bs)) × (u < 10 ^ (i + 1))
  leading_more u e l q = (
    q ∙ leading_at ∙ ap (λ (o : Option ℕ). on_some o (λ u. leading u (drop (i + 1) bs))) e,
    let t = ten_more i in let n = next-below v (get_or bs i 0) u (10 ^ i) e l in omega arith,
  )

  pub leading_stop : {r : Option ℕ} → next v (get_or bs i 0) ≡ None → r ≡ leading v (drop i bs) → r ≡ None
  leading_stop e q = q ∙ leading_at ∙ ap (λ (o : Option ℕ). on_some o (λ u. leading u (drop (i + 1) bs))) e

pub leading-all : (bs : List ℕ) (i v : ℕ) {r : Option ℕ} → length bs ≤ i → r ≡ leading v (drop i bs) → r ≡ Some v
unfolding leading
leading-all bs i v h q = q ∙ ap (λ (t : List ℕ). leading v t) (drop_all i bs h)

pub few_digits : (v i k : ℕ) → v < 10 ^ i → i ≤ k → v < 10 ^ k
few_digits v i k h l = lt_of_lt_of_le h (pow-le-pow_right (zero-lt-suc 9) l)
