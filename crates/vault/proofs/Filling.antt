-- A statement's buffer as it is filled, and the sums of its rows.
use Rattle.std.proofs.Common.{zero, ◌≡◌, ℕ, suc, ◌+◌, ◌-◌, ◌*◌, ◌<◌, ◌≤◌, eqb, ltb, List, [], ◌∷◌, ◌++◌, map, length, get_or, drop, set, sym, refl, ap, ◌∙◌, subst, append_assoc, add-one, arith}
use borrow.Rule.Slice.PartMut.{put_mid}
use Rattle.std.proofs.lemmas.List.{append-nil, length-append, drop_more, drop_all, set_at, get_or-map}
use Rattle.std.proofs.lemmas.Bool.{cond-false, cond-true, le-ltb, eq-eqb, ne_eqb}
use Rattle.page.specs.Numerals.{lead, numeral}
use Rattle.page.proofs.Columns.{put_behind}
use Rattle.history.specs.Contents.{figure}
use Rattle.history.specs.Statement.{columns, role_line, summed}
use Rattle.vault.specs.declared.statement.Tally.{Tally}
use Rattle.vault.specs.declared.statement.Row.{Row}
use Rattle.vault.specs.Statements.{givens, declineds, handed_backs, opens, all_figures, lines_to, statement_of, statement_after, row_of, joint, sums_to, row_text}

seven : (n : ℕ) → length (numeral 7 n) ≡ 7
unfolding numeral lead
seven n = refl

two : (a b : List ℕ) (m n : ℕ) → length a ≡ m → length b ≡ n → length (a ++ b) ≡ m + n
two a b m n p q = omega (arith, length-append a b)

-- five parts of seven columns, one behind the other, and the newline
five_parts : (xs a b d e f : List ℕ) → length xs ≡ 36 → length a ≡ 7 → length b ≡ 7 → length d ≡ 7 → length e ≡ 7 → length f ≡ 7
    → set (put_mid 28 7 (put_mid 21 7 (put_mid 14 7 (put_mid 7 7 (a ++ drop 7 xs) b) d) e) f) 35 10 ≡ a ++ (b ++ (d ++ (e ++ (f ++ 10 ∷ []))))
five_parts xs a b d e f lx la lb ld le lf =
    let p = put_behind 7 7 14 a xs (a ++ drop 7 xs) b refl la refl in
    let lp : length (a ++ b) ≡ 14 = two a b 7 7 la lb in
    let q = put_behind 14 7 21 (a ++ b) xs _ d p lp refl in
    let lq : length ((a ++ b) ++ d) ≡ 21 = two (a ++ b) d 14 7 lp ld in
    let r = put_behind 21 7 28 ((a ++ b) ++ d) xs _ e q lq refl in
    let lr : length (((a ++ b) ++ d) ++ e) ≡ 28 = two ((a ++ b) ++ d) e 21 7 lq le in
    let s = put_behind 28 7 35 (((a ++ b) ++ d) ++ e) xs _ f r lr refl in
    let ls : length ((((a ++ b) ++ d) ++ e) ++ f) ≡ 35 = two (((a ++ b) ++ d) ++ e) f 28 7 lr lf in
    let end : drop 35 xs ≡ get_or xs 35 0 ∷ [] = drop_more xs 35 0 (omega arith) ∙ ap (λ (t : List ℕ). get_or xs 35 0 ∷ t) (drop_all 36 xs (omega arith)) in
    ap (λ (t : List ℕ). set t 35 10) (s ∙ ap (λ (t : List ℕ). ((((a ++ b) ++ d) ++ e) ++ f) ++ t) end)
    ∙ set_at ((((a ++ b) ++ d) ++ e) ++ f) (get_or xs 35 0) [] 10 35 ls
    ∙ simp append_assoc

pub row_filled : (w : Row) (xs a b d e f : List ℕ) → length xs ≡ 36 → a ≡ numeral 7 w.given → b ≡ numeral 7 w.declined → d ≡ numeral 7 w.handed_back
    → e ≡ numeral 7 w.«open» → f ≡ numeral 7 w.units
    → set (put_mid 28 7 (put_mid 21 7 (put_mid 14 7 (put_mid 7 7 (a ++ drop 7 xs) b) d) e) f) 35 10 ≡ row_text w
unfolding row_text
row_filled w xs a b d e f lx pa pb pd pe pf =
    five_parts xs a b d e f lx (ap length pa ∙ seven _) (ap length pb ∙ seven _) (ap length pd ∙ seven _) (ap length pe ∙ seven _) (ap length pf ∙ seven _)
    ∙ (λ j. pa j ++ (pb j ++ (pd j ++ (pe j ++ (pf j ++ 10 ∷ [])))))

-- a line: three columns, and a row behind them
pub line_filled : (xs front row : List ℕ) → length xs ≡ 39 → length front ≡ 3 → put_mid 3 36 (front ++ drop 3 xs) row ≡ front ++ row
line_filled xs front row lx lf =
    put_behind 3 36 39 front xs (front ++ drop 3 xs) row refl lf refl
    ∙ ap (λ (t : List ℕ). (front ++ row) ++ t) (drop_all 39 xs (omega arith))
    ∙ append-nil (front ++ row)

-- what is read at i is the figure of role name i + 1
figure-read : (f : Tally → ℕ) (ts : List Tally) (i : ℕ) (t : Tally) → i < length ts → t ≡ get_or ts i t → figure (map f ts) (suc i) ≡ f t
figure-read f ts i t h e =
    let k : suc i - 1 ≡ i = omega arith in
    ap (λ (n : ℕ). get_or (map f ts) n 0) k ∙ get_or-map f ts i t 0 h ∙ ap f (sym e)

units-read : (us : List ℕ) (i u : ℕ) → u ≡ get_or us i 0 → figure us (suc i) ≡ u
units-read us i u e =
    let k : suc i - 1 ≡ i = omega arith in
    ap (λ (n : ℕ). get_or us n 0) k ∙ sym e

module _ (us : List ℕ) (ts : List Tally) (i : ℕ) (t : Tally) (u : ℕ) (h : i < length ts) (p : t ≡ get_or ts i t) (q : u ≡ get_or us i 0) where
  g : givens ts (suc i) ≡ t.given
  g = figure-read (λ (x : Tally). x.given) ts i t h p

  d : declineds ts (suc i) ≡ t.declined
  d = figure-read (λ (x : Tally). x.declined) ts i t h p

  b : handed_backs ts (suc i) ≡ t.handed_back
  b = figure-read (λ (x : Tally). x.handed_back) ts i t h p

  o : opens ts (suc i) ≡ t.«open»
  o = figure-read (λ (x : Tally). x.«open») ts i t h p

  -- one more row in the sums
  pub sums_more : joint (sums_to i us ts) (row_of t u) ≡ sums_to (i + 1) us ts
  unfolding sums_to
  sums_more =
      let v : figure us (suc i) ≡ u = units-read us i u q in
      subst (λ (n : ℕ). joint (sums_to i us ts) (row_of t u) ≡ sums_to n us ts) (sym (add-one i))
      (λ j.
      record {
        given = summed i (givens ts) + sym g j;
        declined = summed i (declineds ts) + sym d j;
        handed_back = summed i (handed_backs ts) + sym b j;
        «open» = summed i (opens ts) + sym o j;
        units = summed i (λ r. opens ts r * figure us r) + sym o j * sym v j;
      })

  -- the line of role name i + 1
  line_at : (t.given ≡ 0 → ⊥) → role_line (givens ts) (all_figures us ts) (suc i) ≡ numeral 3 (i + 1) ++ row_text (row_of t u)
  unfolding row_text
  line_at n =
      let v : figure us (suc i) ≡ u = units-read us i u q in
      cond-false (eqb (givens ts (suc i)) 0) _ _ (ne_eqb (givens ts (suc i)) 0 (λ e. n (sym g ∙ e)))
      ∙ (λ j. numeral 3 (sym (add-one i) j) ++ columns (g j ∷ d j ∷ b j ∷ o j ∷ o j * v j ∷ []))

  -- a role name without an offer has no line
  pub lines_skip : t.given ≡ 0 → lines_to i us ts ≡ lines_to (i + 1) us ts
  unfolding lines_to
  lines_skip e =
      sym (append-nil (lines_to i us ts))
      ∙ ap (λ (s : List ℕ). lines_to i us ts ++ s) (sym (cond-true (eqb (givens ts (suc i)) 0) _ _ (eq-eqb (givens ts (suc i)) 0 (g ∙ e))))
      ∙ ap (λ (n : ℕ). lines_to n us ts) (sym (add-one i))

  next_lines : (t.given ≡ 0 → ⊥) → lines_to i us ts ++ (numeral 3 (i + 1) ++ row_text (row_of t u)) ≡ lines_to (i + 1) us ts
  unfolding lines_to
  next_lines n = ap (λ (s : List ℕ). lines_to i us ts ++ s) (sym (line_at n)) ∙ ap (λ (m : ℕ). lines_to m us ts) (sym (add-one i))

  -- one more line behind those that are written
  pub lines_more : (end : ℕ) (out xs ys : List ℕ) → (t.given ≡ 0 → ⊥) → ys ≡ numeral 3 (i + 1) ++ row_text (row_of t u) → length ys ≡ 39
      → end ≡ length (lines_to i us ts) → xs ≡ lines_to i us ts ++ drop end out
      → (put_mid end (end + 39 - end) xs ys ≡ lines_to (i + 1) us ts ++ drop (end + 39) out) × (end + 39 ≡ length (lines_to (i + 1) us ts))
  lines_more end out xs ys n e l s w =
      let m : lines_to i us ts ++ ys ≡ lines_to (i + 1) us ts = ap (λ (t : List ℕ). lines_to i us ts ++ t) e ∙ next_lines n in (
        put_behind end (end + 39 - end) (end + 39) (lines_to i us ts) out xs ys w (sym s) (omega arith) ∙ ap (λ (t : List ℕ). t ++ drop (end + 39) out) m,
        sym (two (lines_to i us ts) ys end 39 (sym s) l) ∙ ap length m,
      )

pub no_sums : (us : List ℕ) (ts : List Tally) → record { given = 0; declined = 0; handed_back = 0; «open» = 0; units = 0 } ≡ sums_to 0 us ts
unfolding sums_to
no_sums us ts = refl

pub no_lines : (us : List ℕ) (ts : List Tally) → lines_to 0 us ts ≡ []
unfolding lines_to
no_lines us ts = refl

-- the statement is its lines, and the total line behind them
whole : (us : List ℕ) (ts : List Tally) → lines_to 16 us ts ++ (32 ∷ 32 ∷ 32 ∷ row_text (sums_to 16 us ts)) ≡ statement_of us ts
unfolding lines_to row_text sums_to statement_of
whole us ts = refl

pub statement_filled : (us : List ℕ) (ts : List Tally) (end : ℕ) (w : Row) (out xs ys : List ℕ) → 663 ≤ length out → end ≡ length (lines_to 16 us ts)
    → w ≡ sums_to 16 us ts → ys ≡ 32 ∷ 32 ∷ 32 ∷ row_text w → length ys ≡ 39 → xs ≡ lines_to 16 us ts ++ drop end out
    → (end + 39 ≡ length (statement_of us ts)) × (put_mid end (end + 39 - end) xs ys ≡ statement_after (statement_of us ts) out)
statement_filled us ts end w out xs ys h s e y l x =
    let m : lines_to 16 us ts ++ ys ≡ statement_of us ts = ap (λ (t : List ℕ). lines_to 16 us ts ++ t) (y ∙ ap (λ (v : Row). 32 ∷ 32 ∷ 32 ∷ row_text v) e) ∙ whole us ts in
    let n : end + 39 ≡ length (statement_of us ts) = sym (two (lines_to 16 us ts) ys end 39 (sym s) l) ∙ ap length m in (
      n,
      put_behind end (end + 39 - end) (end + 39) (lines_to 16 us ts) out xs ys x (sym s) (omega arith)
          ∙ ap (λ (t : List ℕ). t ++ drop (end + 39) out) m
          ∙ ap (λ (k : ℕ). statement_of us ts ++ drop k out) n
          ∙ sym (cond-false (ltb (length out) 663) _ _ (le-ltb (length out) 663 h)),
    )

-- the first of what is left behind n, and the rest of it
pub first_left : {X : Type 0} (xs : List X) (n : ℕ) (x : X) (rest : List X) → x ∷ rest ≡ drop n xs
    → (n < length xs) × (((d : X) → x ≡ get_or xs n d) × (rest ≡ drop (suc n) xs))
first_left [] zero x rest e = absurd (let z : ◌≡◌ {A = ℕ} 0 1 = cc in omega arith)
first_left [] (suc n) x rest e = absurd (let z : ◌≡◌ {A = ℕ} 0 1 = cc in omega arith)
first_left (y ∷ ys) zero x rest e = let q : x ≡ y = cc in let r : rest ≡ ys = cc in (omega arith, (λ d. q, r))
first_left (y ∷ ys) (suc n) x rest e = let h = first_left ys n x rest e in (omega (arith, h.0), h.1)
