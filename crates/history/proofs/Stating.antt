-- The statement of the contents is the statement by the calls, and fits its buffer.
use Rattle.std.proofs.Common.{◌≡◌, ℕ, zero, suc, ◌+◌, ◌*◌, ◌/◌, ◌≤◌, Bool, true, false, cond, eqb, List, [], ◌∷◌, ◌++◌, map, length, refl, ap, ◌∙◌, ap₂, arith}
use Rattle.std.proofs.lemmas.List.{length-append, length_push}
use Rattle.page.specs.Numerals.{lead, numeral}
use Rattle.history.specs.Statement.{summed, columns, figures, role_line, role_lines, total_line, stated, StatementsFit}

-- the same figures for the role names 1 to n
abbrev pub Agree : ℕ → (ℕ → ℕ) → (ℕ → ℕ) → Type 0
Agree n f g = (r : ℕ) → 1 ≤ r → r ≤ n → f r ≡ g r

fewer : (n : ℕ) (f g : ℕ → ℕ) → Agree (suc n) f g → Agree n f g
fewer n f g e r low high = e r low (omega arith)

summed_same : (n : ℕ) (f g : ℕ → ℕ) → Agree n f g → summed n f ≡ summed n g
summed_same zero f g e = refl
summed_same (suc n) f g e = omega (arith, summed_same n f g (fewer n f g e), e (suc n) (omega arith) (omega arith))

module _ (u g d b o g' d' b' o' : ℕ → ℕ) where
  line_same : (r : ℕ) → g r ≡ g' r → d r ≡ d' r → b r ≡ b' r → o r ≡ o' r → role_line g (figures u g d b o) r ≡ role_line g' (figures u g' d' b' o') r
  line_same r p q s t = rw (p, q, s, t)

  lines_same : (n : ℕ) → Agree n g g' → Agree n d d' → Agree n b b' → Agree n o o' → role_lines g (figures u g d b o) n ≡ role_lines g' (figures u g' d' b' o') n
  lines_same zero p q s t = refl
  lines_same (suc n) p q s t =
      ap₂ ◌++◌ (lines_same n (fewer n g g' p) (fewer n d d' q) (fewer n b b' s) (fewer n o o' t))
      (line_same (suc n) (p (suc n) (omega arith) (omega arith)) (q (suc n) (omega arith) (omega arith)) (s (suc n) (omega arith) (omega arith)) (t (suc n) (omega arith) (omega arith)))

  total-same : Agree 16 g g' → Agree 16 d d' → Agree 16 b b' → Agree 16 o o' → total_line (figures u g d b o) ≡ total_line (figures u g' d' b' o')
  total-same p q s t =
      let x : summed 16 (λ r. o r * u r) ≡ summed 16 (λ r. o' r * u r) = summed_same 16 (λ r. o r * u r) (λ r. o' r * u r) (λ r low high. ap (λ (n : ℕ). n * u r) (t r low high)) in
      rw (summed_same 16 g g' p, summed_same 16 d d' q, summed_same 16 b b' s, summed_same 16 o o' t, x)

  pub stated-same : Agree 16 g g' → Agree 16 d d' → Agree 16 b b' → Agree 16 o o' → stated u g d b o ≡ stated u g' d' b' o'
  stated-same p q s t = ap₂ ◌++◌ (lines_same 16 p q s t) (total-same p q s t)

-- the statement fits its buffer
lead-length : (w n : ℕ) → length (lead w n) ≡ w
unfolding lead
lead-length zero n = refl
lead-length (suc w) n = length_push (lead w (n / 10)) _ ∙ omega (arith, lead-length w (n / 10))

numeral-length : (w n : ℕ) → length (numeral w n) ≡ w
unfolding numeral
numeral-length zero n = refl
numeral-length (suc w) n = length_push (lead w (n / 10)) _ ∙ omega (arith, lead-length w (n / 10))

columns-length : (ns : List ℕ) → length (columns ns) ≡ 7 * length ns + 1
columns-length [] = refl
columns-length (n ∷ ns) = omega (arith, length-append (numeral 7 n) (columns ns), numeral-length 7 n, columns-length ns)

module _ (u g d b o : ℕ → ℕ) where
  role_line_most : (r : ℕ) → length (role_line g (figures u g d b o) r) ≤ 39
  role_line_most r = go (eqb (g r) 0)
    where
      ns : List ℕ
      ns = g r ∷ d r ∷ b r ∷ o r ∷ o r * u r ∷ []

      go : (t : Bool) → length (cond t [] (numeral 3 r ++ columns ns)) ≤ 39
      go true = omega arith
      go false = omega (arith, length-append (numeral 3 r) (columns ns), numeral-length 3 r, columns-length ns)

  role_lines_most : (n : ℕ) → length (role_lines g (figures u g d b o) n) ≤ 39 * n
  role_lines_most zero = omega arith
  role_lines_most (suc n) =
      omega (arith, length-append (role_lines g (figures u g d b o) n) (role_line g (figures u g d b o) (suc n)), role_lines_most n, role_line_most (suc n))

pub statements_fit : StatementsFit
statements_fit u g d b o =
    omega (
      arith,
      length-append (role_lines g (figures u g d b o) 16) (total_line (figures u g d b o)),
      role_lines_most u g d b o 16,
      columns-length (map (summed 16) (figures u g d b o)),
    )
