-- What is read is written back, and what is written is read back: fields, lines and pages.
use Rattle.std.proofs.Common.{◌≡◌, ℕ, zero, suc, ◌+◌, ◌*◌, ◌/◌, ◌<◌, ◌≤◌, Bool, true, false, cond, eqb, ltb, ◌⊎◌, List, [], ◌∷◌, ◌++◌, length, get_or, take, drop, Some, None, Ok, Err, Option, Result, sym, refl, ap, ◌∙◌, subst, inl, inr, append_assoc, arith, length-append, length-drop, take-add}
use Rattle.std.proofs.lemmas.Bool.Decides.{nat_tests}
use Rattle.std.proofs.lemmas.Bool.{eqb-true, le-ltb, ltb-false as ltb-le, cond-true, cond-false, eq-eqb}
use Rattle.std.proofs.lemmas.List.{take-append-drop, drop-drop, drop_more, drop_all, take_at, drop_at, get_or_at, length-take-le}
use Rattle.std.specs.Option.{ok_or}
use Rattle.credential.specs.declared.credentials.Credential.{Credential}
use Rattle.credential.specs.declared.letters.Letter.{Letter}
use Rattle.credential.specs.declared.letters.Letter.TheVariants.{Member, Inclusion, Linked, Intersection, Exclusion}
use Rattle.credential.specs.declared.letters.Mark.{Mark}
use Rattle.credential.specs.declared.letters.Mark.TheVariants.{Entity as E, RoleName as N, Blank as O}
use Rattle.credential.specs.declared.letters.Misfit.{Misfit}
use Rattle.credential.specs.Refusals.{Named, refused_at, on_ok}
use Rattle.credential.specs.Letters.{letter_byte, letter_in, marks_of, tested}
use Rattle.credential.specs.Credentials.{letter_of, fields_of, fitted, credential_of}
use Rattle.credential.proofs.Fields.{six_marks}
use Rattle.credential.proofs.Building.{on_ok_lem, fitted_both, fitted_parts, fields_fit, six_fields_of, made_of_fields, fields_of_made, range_of}
use Rattle.page.specs.Numerals.{numeral, lead, number_in}
use Rattle.page.specs.Fields.{blank, field_at, fit_at, if_fits, read_at, value_of, field_text}
use Rattle.page.specs.Lines.{collected, read_letter, read_field, read_fields, read_line, fields_text, line_of}
use Rattle.page.specs.Pages.{line_at, read_page, page_of}
use Rattle.page.proofs.NumberTrip.{number_back, number_forth}
use Rattle.page.proofs.Collecting.{collect_at}
use Rattle.page.proofs.Writing.{field_length, line_text, line_length}

-- a field

not_blank : (n : ℕ) → blank (numeral 3 n) ≡ false
unfolding numeral lead
not_blank n = grind (arith, nat_tests)

if_fits_lem : (v u : Option ℕ) (l c : ℕ) (t : Result (Unit {0}) Misfit) → if_fits v l c t ≡ Ok u → (v ≡ u) × (t ≡ Ok tt)
if_fits_lem v u l c (Ok x) e = (cc, refl)
if_fits_lem v u l c (Err d) e = let z : ◌≡◌ {A = ℕ} 0 1 = cc in absurd (omega arith)

-- what a mark takes of a field is written as that field
abbrev Taken : Mark → List ℕ → Option ℕ → Type 0
Taken m bs v = (field_text m v ≡ bs) × (tested m v ≡ Ok tt)

taken_blank : (m : Mark) (bs : List ℕ) → bs ≡ 32 ∷ 32 ∷ 32 ∷ [] → tested m None ≡ Ok tt → Taken m bs None
taken_blank E bs b t = let z : ◌≡◌ {A = ℕ} 0 1 = cc in absurd (omega arith)
taken_blank N bs b t = let z : ◌≡◌ {A = ℕ} 0 1 = cc in absurd (omega arith)
taken_blank O bs b t = (sym b, refl)

taken_number : (m : Mark) (bs : List ℕ) (n : ℕ) → numeral 3 n ≡ bs → tested m (Some n) ≡ Ok tt → Taken m bs (Some n)
taken_number E bs n b t = (b, t)
taken_number N bs n b t = (b, t)
taken_number O bs n b t = let z : ◌≡◌ {A = ℕ} 0 1 = cc in absurd (omega arith)

read_number : (m : Mark) (bs : List ℕ) (o : Option ℕ) (l c : ℕ) (v : Option ℕ) → length bs ≡ 3 → number_in bs ≡ o → read_at m o l c ≡ Ok v → Taken m bs v
read_number m bs None l c v n q e = let z : ◌≡◌ {A = ℕ} 0 1 = cc in absurd (omega arith)
read_number m bs (Some k) l c v n q e =
    let p = if_fits_lem (Some k) v l c (tested m (Some k)) e in
    subst (λ (u : Option ℕ). Taken m bs u) p.0
    (taken_number m bs k (ap (λ (w : ℕ). numeral w k) (sym n) ∙ number_back bs k q) p.1)

three_blanks : (bs : List ℕ) → length bs ≡ 3 → blank bs ≡ true → bs ≡ 32 ∷ 32 ∷ 32 ∷ []
three_blanks [] n b = absurd (omega arith)
three_blanks (x ∷ []) n b = absurd (omega arith)
three_blanks (x ∷ y ∷ []) n b = absurd (omega arith)
three_blanks (x ∷ y ∷ z ∷ []) n b = grind (arith, nat_tests)
three_blanks (x ∷ y ∷ z ∷ w ∷ ws) n b = absurd (omega arith)

field_back : (m : Mark) (bs : List ℕ) (l c : ℕ) (v : Option ℕ) → length bs ≡ 3 → value_of m bs l c ≡ Ok v → Taken m bs v
field_back m bs l c v n e = by (blank bs) refl e
  where
    by : (b : Bool) → blank bs ≡ b → cond b (fit_at m None l c) (read_at m (number_in bs) l c) ≡ Ok v → Taken m bs v
    by true b e =
        let p = if_fits_lem None v l c (tested m None) e in
        subst (λ (u : Option ℕ). Taken m bs u) p.0 (taken_blank m bs (three_blanks bs n b) p.1)
    by false b e = read_number m bs (number_in bs) l c v n refl e

fits-at : (m : Mark) (v : Option ℕ) (l c : ℕ) → tested m v ≡ Ok tt → if_fits v l c (tested m v) ≡ Ok v
fits-at m v l c e = ap (λ (t : Result (Unit {0}) Misfit). if_fits v l c t) e

number_field : (m : Mark) (n l c : ℕ) → n < 1000 → tested m (Some n) ≡ Ok tt → value_of m (numeral 3 n) l c ≡ Ok (Some n)
number_field m n l c h t =
    cond-false (blank (numeral 3 n)) _ _ (not_blank n)
    ∙ ap (λ (o : Option ℕ). read_at m o l c) (number_forth 3 n (omega arith) (omega arith) h)
    ∙ fits-at m (Some n) l c t

pub field_forth : (m : Mark) (v : Option ℕ) (l c : ℕ) → tested m v ≡ Ok tt → value_of m (field_text m v) l c ≡ Ok v
field_forth E (Some n) l c t = let p = range_of 32 n t in number_field E n l c (omega arith) t
field_forth E None l c t = let z : ◌≡◌ {A = ℕ} 0 1 = cc in absurd (omega arith)
field_forth N (Some n) l c t = let p = range_of 16 n t in number_field N n l c (omega arith) t
field_forth N None l c t = let z : ◌≡◌ {A = ℕ} 0 1 = cc in absurd (omega arith)
field_forth O (Some n) l c t = let z : ◌≡◌ {A = ℕ} 0 1 = cc in absurd (omega arith)
field_forth O None l c t = refl

-- the six fields

fitted_none : (ms : List Mark) → fitted ms [] ≡ Ok tt
unfolding fitted
fitted_none [] = refl
fitted_none (m ∷ ms) = refl

texts_none : (ms : List Mark) → fields_text ms [] ≡ []
unfolding fields_text
texts_none [] = refl
texts_none (m ∷ ms) = refl

texts_cons : (ms : List Mark) (k : ℕ) (v : Option ℕ) (vs : List (Option ℕ)) → k < length ms
    → fields_text (drop k ms) (v ∷ vs) ≡ field_text (get_or ms k E) v ++ fields_text (drop (k + 1) ms) vs
unfolding fields_text
texts_cons ms k v vs h = ap (λ (us : List Mark). fields_text us (v ∷ vs)) (drop_more ms k E h)

module _ (ms : List Mark) (text : List ℕ) (line : ℕ) where
  pub fields_back : (n k : ℕ) (vs : List (Option ℕ)) → 3 * k + 1 + 3 * n ≤ length text → k + n ≤ length ms → collected n (read_field ms text line) k ≡ Ok vs
      → (take (3 * n) (drop (3 * k + 1) text) ≡ fields_text (drop k ms) vs) × (fitted (drop k ms) vs ≡ Ok tt)
  unfolding collected
  fields_back zero k vs h m e =
      let q : [] ≡ vs = cc in (
        sym (texts_none (drop k ms)) ∙ ap (λ (us : List (Option ℕ)). fields_text (drop k ms) us) q,
        ap (λ (us : List (Option ℕ)). fitted (drop k ms) us) (sym q) ∙ fitted_none (drop k ms),
      )
  fields_back (suc n) k vs h m e =
      let p = on_ok_lem (read_field ms text line k) _ vs e in
      let q = on_ok_lem (collected n (read_field ms text line) (k + 1)) _ vs p.2 in
      let w : p.0 ∷ q.0 ≡ vs = (let e2 = q.2 in cc) in
      let l3 : length (take 3 (drop (3 * k + 1) text)) ≡ 3 = length-take-le 3 (drop (3 * k + 1) text) (simp length-drop (omega arith)) in
      let here = field_back (get_or ms k E) (field_at text k) line (3 * k + 2) p.0 l3 p.1 in
      let more = fields_back n (k + 1) q.0 (omega arith) (omega arith) q.1 in
      let s : 3 * suc n ≡ 3 + 3 * n = omega arith in
      let d : 3 * k + 1 + 3 ≡ 3 * (k + 1) + 1 = omega arith in (
        ap (λ (j : ℕ). take j (drop (3 * k + 1) text)) s
            ∙ take-add 3 (3 * n) (drop (3 * k + 1) text)
            ∙ ap (λ (t : List ℕ). take 3 (drop (3 * k + 1) text) ++ take (3 * n) t) (drop-drop 3 (3 * k + 1) text ∙ ap (λ (j : ℕ). drop j text) d)
            ∙ ap (λ (t : List ℕ). t ++ take (3 * n) (drop (3 * (k + 1) + 1) text)) (sym here.0)
            ∙ ap (λ (t : List ℕ). field_text (get_or ms k E) p.0 ++ t) more.0
            ∙ sym (texts_cons ms k p.0 q.0 (omega arith))
            ∙ ap (λ (us : List (Option ℕ)). fields_text (drop k ms) us) w,
        ap (λ (us : List Mark). fitted us vs) (drop_more ms k E (omega arith))
            ∙ ap (λ (us : List (Option ℕ)). fitted (get_or ms k E ∷ drop (k + 1) ms) us) (sym w)
            ∙ fitted_both (get_or ms k E) (drop (k + 1) ms) p.0 q.0 here.1 more.1,
      )

  pub fields_forth : (vs : List (Option ℕ)) (k : ℕ) (rest : List ℕ) → k + length vs ≤ length ms → drop (3 * k + 1) text ≡ fields_text (drop k ms) vs ++ rest
      → fitted (drop k ms) vs ≡ Ok tt → collected (length vs) (read_field ms text line) k ≡ Ok vs
  unfolding collected
  fields_forth [] k rest m e h = refl
  fields_forth (v ∷ vs) k rest m e h =
      let fit = fitted_parts (get_or ms k E) (drop (k + 1) ms) v vs (ap (λ (us : List Mark). fitted us (v ∷ vs)) (sym (drop_more ms k E (omega arith))) ∙ h) in
      let e2 : drop (3 * k + 1) text ≡ field_text (get_or ms k E) v ++ (fields_text (drop (k + 1) ms) vs ++ rest) =
      e ∙ ap (λ (t : List ℕ). t ++ rest) (texts_cons ms k v vs (omega arith)) ∙ append_assoc (field_text (get_or ms k E) v) (fields_text (drop (k + 1) ms) vs) rest in
      let t3 : take 3 (drop (3 * k + 1) text) ≡ field_text (get_or ms k E) v =
      ap (λ (t : List ℕ). take 3 t) e2 ∙ take_at (field_text (get_or ms k E) v) _ 3 (field_length (get_or ms k E) v) in
      let d : 3 * (k + 1) + 1 ≡ 3 * k + 1 + 3 = omega arith in
      let d3 : drop (3 * (k + 1) + 1) text ≡ fields_text (drop (k + 1) ms) vs ++ rest =
      ap (λ (j : ℕ). drop j text) d ∙ sym (drop-drop 3 (3 * k + 1) text) ∙ ap (λ (t : List ℕ). drop 3 t) e2
      ∙ drop_at (field_text (get_or ms k E) v) _ 3 (field_length (get_or ms k E) v) in
      let here : read_field ms text line k ≡ Ok v =
      ap (λ (bs : List ℕ). value_of (get_or ms k E) bs line (3 * k + 2)) t3 ∙ field_forth (get_or ms k E) v line (3 * k + 2) fit.0 in
      ap (λ (r : Result (Option ℕ) Named). on_ok r (λ v. on_ok (collected (length vs) (read_field ms text line) (k + 1)) (λ vs. Ok (v ∷ vs)))) here
      ∙ ap (λ (r : Result (List (Option ℕ)) Named). on_ok r (λ vs. Ok (v ∷ vs))) (fields_forth vs (k + 1) rest (omega arith) d3 fit.1)

-- a line

cond_ok : {A E : Type 0} (b : Bool) (r s : Result A E) (y : A) → cond b r s ≡ Ok y → ((b ≡ true) × (r ≡ Ok y)) ⊎ ((b ≡ false) × (s ≡ Ok y))
cond_ok true r s y e = inl (refl, e)
cond_ok false r s y e = inr (refl, e)

pub never : {A E : Type 0} {P : Type 0} (d : E) (y : A) → Err d ≡ Ok y → P
never d y e = let z : ◌≡◌ {A = ℕ} 0 1 = cc in absurd (omega arith)

letter_known : (b : ℕ) (l : Letter) → letter_in b ≡ Some l → letter_byte l ≡ b
letter_known b l e = grind (arith, nat_tests)

letter_back : (b line : ℕ) (l : Letter) → read_letter b line ≡ Ok l → letter_byte l ≡ b
letter_back b line l e = by (letter_in b) refl e
  where
    by : (o : Option Letter) → letter_in b ≡ o → ok_or o (refused_at 3 line 1) ≡ Ok l → letter_byte l ≡ b
    by (Some k) q e = let w : k ≡ l = cc in letter_known b l (q ∙ ap (λ (x : Letter). Some x) w)
    by None q e = never (refused_at 3 line 1) l e

letter_forth : (l : Letter) (line : ℕ) → read_letter (letter_byte l) line ≡ Ok l
letter_forth Member line = refl
letter_forth Inclusion line = refl
letter_forth Linked line = refl
letter_forth Intersection line = refl
letter_forth Exclusion line = refl

whole_line : (text fields : List ℕ) (b : ℕ) → length text ≡ 20 → get_or text 0 0 ≡ b → get_or text 19 0 ≡ 10 → take 18 (drop 1 text) ≡ fields → b ∷ (fields ++ 10 ∷ []) ≡ text
whole_line text fields b n a z f =
    let end : drop 18 (drop 1 text) ≡ 10 ∷ [] =
    drop-drop 18 1 text ∙ drop_more text 19 0 (omega arith) ∙ ap (λ (x : ℕ). x ∷ drop 20 text) z ∙ ap (λ (s : List ℕ). 10 ∷ s) (drop_all 20 text (omega arith)) in
    let rest : drop 1 text ≡ fields ++ 10 ∷ [] =
    sym (take-append-drop 18 (drop 1 text)) ∙ ap (λ (s : List ℕ). s ++ drop 18 (drop 1 text)) f ∙ ap (λ (s : List ℕ). fields ++ s) end in
    sym (drop_more text 0 0 (omega arith) ∙ ap (λ (x : ℕ). x ∷ drop 1 text) a ∙ ap (λ (s : List ℕ). b ∷ s) rest)

pub line_back : (text : List ℕ) (line : ℕ) (c : Credential) → read_line text line ≡ Ok c → line_of c ≡ text
line_back text line c e =
    elim (cond_ok (eqb (length text) 20) _ _ c e) [
      | inr q ↦ never (refused_at 2 line 20) c q.1
      | inl p ↦
          elim (cond_ok (eqb (get_or text 19 0) 10) _ _ c p.1) [
            | inr q ↦ never (refused_at 2 line 20) c q.1
            | inl p2 ↦
                rest (eqb-true (length text) 20 p.0) (eqb-true (get_or text 19 0) 10 p2.0) p2.1
          ]
    ]
  where
    rest : length text ≡ 20 → get_or text 19 0 ≡ 10 → on_ok (read_letter (get_or text 0 0) line) (λ l. on_ok (read_fields (marks_of l) text line) (λ fs. credential_of l fs)) ≡ Ok c → line_of c ≡ text
    rest n z e =
        let l = on_ok_lem (read_letter (get_or text 0 0) line) _ c e in
        let f = on_ok_lem (read_fields (marks_of l.0) text line) _ c l.2 in
        let six = six_marks l.0 in
        let back = fields_back (marks_of l.0) text line 6 0 f.0 (omega arith) (omega arith) f.1 in
        let has = fields_of_made l.0 f.0 c (collect_at 6 (read_field (marks_of l.0) text line) 0 f.0 f.1).0 f.2 in
        let b : letter_byte (letter_of c) ≡ get_or text 0 0 = ap letter_byte has.0 ∙ letter_back (get_or text 0 0) line l.0 l.1 in
        let t : fields_text (marks_of (letter_of c)) (fields_of c) ≡ take 18 (drop 1 text) =
        ap (λ (k : Letter). fields_text (marks_of k) (fields_of c)) has.0 ∙ ap (λ (vs : List (Option ℕ)). fields_text (marks_of l.0) vs) has.1 ∙ sym back.0 in
        whole_line text (fields_text (marks_of (letter_of c)) (fields_of c)) (letter_byte (letter_of c)) n (sym b) z (sym t)

line_end : (c : Credential) → get_or (line_of c) 19 0 ≡ 10
line_end c = get_or_at (fields_text (marks_of (letter_of c)) (fields_of c)) 10 [] 0 18 (line_text c)

pub line_forth : (c : Credential) (line : ℕ) → read_line (line_of c) line ≡ Ok c
line_forth c line =
    let six : length (marks_of (letter_of c)) ≡ 6 = six_marks (letter_of c) in
    let n : length (fields_of c) ≡ 6 = six_fields_of c in
    let fields : read_fields (marks_of (letter_of c)) (line_of c) line ≡ Ok (fields_of c) =
    ap (λ (k : ℕ). collected k (read_field (marks_of (letter_of c)) (line_of c) line) 0) (sym n)
    ∙ fields_forth (marks_of (letter_of c)) (line_of c) line (fields_of c) 0 (10 ∷ []) (omega arith) refl (fields_fit c) in
    cond-true (eqb (length (line_of c)) 20) _ _ (eq-eqb (length (line_of c)) 20 (line_length c))
    ∙ cond-true (eqb (get_or (line_of c) 19 0) 10) _ _ (eq-eqb (get_or (line_of c) 19 0) 10 (line_end c))
    ∙ ap (λ (r : Result Letter Named). on_ok r (λ l. on_ok (read_fields (marks_of l) (line_of c) line) (λ fs. credential_of l fs))) (letter_forth (letter_of c) line)
    ∙ ap (λ (r : Result (List (Option ℕ)) Named). on_ok r (λ fs. credential_of (letter_of c) fs)) fields
    ∙ made_of_fields c

-- a page

module _ (bytes : List ℕ) where
  lines_back : (n k : ℕ) (cs : List Credential) → length bytes ≤ 20 * (k + n) → collected n (line_at bytes) k ≡ Ok cs → page_of cs ≡ drop (20 * k) bytes
  unfolding collected page_of
  lines_back zero k cs h e =
      let q : [] ≡ cs = cc in ap page_of (sym q) ∙ sym (drop_all (20 * k) bytes (omega arith))
  lines_back (suc n) k cs h e =
      let p = on_ok_lem (line_at bytes k) _ cs e in
      let q = on_ok_lem (collected n (line_at bytes) (k + 1)) _ cs p.2 in
      let w : p.0 ∷ q.0 ≡ cs = (let e2 = q.2 in cc) in
      let here : line_of p.0 ≡ take 20 (drop (20 * k) bytes) = line_back (take 20 (drop (20 * k) bytes)) (k + 1) p.0 p.1 in
      let more : page_of q.0 ≡ drop (20 * (k + 1)) bytes = lines_back n (k + 1) q.0 (omega arith) q.1 in
      let d : 20 * (k + 1) ≡ 20 * k + 20 = omega arith in
      ap page_of (sym w) ∙ ap (λ (s : List ℕ). s ++ page_of q.0) here
      ∙ ap (λ (s : List ℕ). take 20 (drop (20 * k) bytes) ++ s) (more ∙ ap (λ (j : ℕ). drop j bytes) d ∙ sym (drop-drop 20 (20 * k) bytes))
      ∙ take-append-drop 20 (drop (20 * k) bytes)

pub page_lines : (bytes : List ℕ) (cs : List Credential) → read_page bytes ≡ Ok cs → (length bytes ≤ 5120) × (collected ((length bytes + 19) / 20) (line_at bytes) 0 ≡ Ok cs)
page_lines bytes cs e =
    elim (cond_ok (ltb 5120 (length bytes)) _ _ cs e) [ inl q ↦ never (refused_at 1 0 0) cs q.1 | inr q ↦ (ltb-le 5120 (length bytes) q.0, q.1) ]

-- a page that is read is its credentials' page
pub page_back : (bytes : List ℕ) (cs : List Credential) → read_page bytes ≡ Ok cs → page_of cs ≡ bytes
page_back bytes cs e = lines_back bytes ((length bytes + 19) / 20) 0 cs (omega arith) (page_lines bytes cs e).1

pub page-length : (cs : List Credential) → length (page_of cs) ≡ 20 * length cs
unfolding page_of
page-length [] = refl
page-length (c ∷ cs) = length-append (line_of c) (page_of cs) ∙ (let a = line_length c in let b = page-length cs in omega arith)

lines_forth : (cs : List Credential) (bytes : List ℕ) (k : ℕ) → drop (20 * k) bytes ≡ page_of cs → collected (length cs) (line_at bytes) k ≡ Ok cs
unfolding collected page_of
lines_forth [] bytes k e = refl
lines_forth (c ∷ cs) bytes k e =
    let here : line_at bytes k ≡ Ok c =
    ap (λ (s : List ℕ). read_line (take 20 s) (k + 1)) e ∙ ap (λ (s : List ℕ). read_line s (k + 1)) (take_at (line_of c) (page_of cs) 20 (line_length c)) ∙ line_forth c (k + 1) in
    let d : 20 * (k + 1) ≡ 20 * k + 20 = omega arith in
    let rest : drop (20 * (k + 1)) bytes ≡ page_of cs =
    ap (λ (j : ℕ). drop j bytes) d ∙ sym (drop-drop 20 (20 * k) bytes) ∙ ap (λ (s : List ℕ). drop 20 s) e ∙ drop_at (line_of c) (page_of cs) 20 (line_length c) in
    ap (λ (r : Result Credential Named). on_ok r (λ x. on_ok (collected (length cs) (line_at bytes) (k + 1)) (λ xs. Ok (x ∷ xs)))) here
    ∙ ap (λ (r : Result (List Credential) Named). on_ok r (λ xs. Ok (c ∷ xs))) (lines_forth cs bytes (k + 1) rest)

-- the page of at most 256 credentials is read as those
pub page_forth : (cs : List Credential) → length cs ≤ 256 → read_page (page_of cs) ≡ Ok cs
page_forth cs h =
    let l : length (page_of cs) ≡ 20 * length cs = page-length cs in
    let n : (length (page_of cs) + 19) / 20 ≡ length cs = omega arith in
    cond-false (ltb 5120 (length (page_of cs))) _ _ (le-ltb _ _ (omega arith))
    ∙ ap (λ (k : ℕ). collected k (line_at (page_of cs)) 0) n ∙ lines_forth cs (page_of cs) 0 refl
