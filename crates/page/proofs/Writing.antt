-- What the writing of fields gives.
use Rattle.std.proofs.Common.{◌≡◌, ℕ, zero, suc, ◌+◌, ◌-◌, ◌*◌, ◌<◌, ◌≤◌, ltb, List, [], ◌∷◌, ◌++◌, length, get_or, take, drop, set, Some, None, Option, sym, refl, ap, ◌∙◌, append_assoc, le_of_suc-le-suc, not-suc-le-zero, add-one, arith}
use borrow.Rule.Slice.PartMut.{put_mid}
use Rattle.std.proofs.lemmas.List.{append-nil, length-append, length-take-le, take-append-drop, take_all, drop_more, drop_all, set_at, get_or_default}
use Rattle.std.proofs.lemmas.Slice.Zip.{length-zip, get_or-zip}
use Rattle.std.proofs.lemmas.Bool.{cond-false, le-ltb}
use Rattle.std.specs.List.{enumerate_from, zip}
use Rattle.credential.specs.declared.letters.Mark.{Mark}
use Rattle.credential.specs.declared.letters.Mark.TheVariants.{Entity as E, RoleName as N, Blank as O}
use Rattle.credential.specs.declared.credentials.Credential.{Credential}
use Rattle.credential.specs.Letters.{marks_of}
use Rattle.credential.specs.Credentials.{letter_of, fields_of}
use Rattle.credential.proofs.Fields.{six_marks}
use Rattle.credential.proofs.Building.{six_fields_of as six_fields}
use Rattle.page.specs.Numerals.{lead, numeral}
use Rattle.page.specs.Fields.{field_text, number_text}
use Rattle.page.specs.Lines.{fields_text, line_of}
use Rattle.page.specs.Pages.{page_of, write_after}
use Rattle.page.proofs.Columns.{put_behind, turn}

number-length : (v : Option ℕ) → length (number_text v) ≡ 3
unfolding numeral lead
number-length (Some n) = refl
number-length None = refl

pub field_length : (m : Mark) (v : Option ℕ) → length (field_text m v) ≡ 3
field_length E v = number-length v
field_length N v = number-length v
field_length O v = refl

pub fields_length : (ms : List Mark) (vs : List (Option ℕ)) → length ms ≡ length vs → length (fields_text ms vs) ≡ 3 * length vs
unfolding fields_text
fields_length [] [] e = refl
fields_length [] (v ∷ vs) e = absurd (omega arith)
fields_length (m ∷ ms) [] e = absurd (omega arith)
fields_length (m ∷ ms) (v ∷ vs) e =
    length-append (field_text m v) (fields_text ms vs)
    ∙ (let a = field_length m v in let b = fields_length ms vs (omega arith) in omega arith)

fields_push : (k : ℕ) (ms : List Mark) (vs : List (Option ℕ)) → k < length ms → k < length vs
    → fields_text (take (suc k) ms) (take (suc k) vs) ≡ fields_text (take k ms) (take k vs) ++ field_text (get_or ms k E) (get_or vs k None)
unfolding fields_text
fields_push k [] vs h l = absurd (not-suc-le-zero h)
fields_push k (m ∷ ms) [] h l = absurd (not-suc-le-zero l)
fields_push zero (m ∷ ms) (v ∷ vs) h l = append-nil (field_text m v)
fields_push (suc k) (m ∷ ms) (v ∷ vs) h l =
    ap (λ (t : List ℕ). field_text m v ++ t) (fields_push k ms vs (le_of_suc-le-suc h) (le_of_suc-le-suc l))
    ∙ sym (append_assoc (field_text m v) (fields_text (take k ms) (take k vs)) (field_text (get_or ms k E) (get_or vs k None)))

module _ (k : ℕ) (ms : List Mark) (vs : List (Option ℕ)) (start line xs ys : List ℕ) (lm : length ms ≡ 6) (lv : length vs ≡ 6) (ls : length start ≡ 1) (h : k < 6) where
  front : length (start ++ fields_text (take k ms) (take k vs)) ≡ 3 * k + 1
  front =
      let a = length-append start (fields_text (take k ms) (take k vs)) in
      let m : length (take k ms) ≡ k = length-take-le k ms (omega arith) in
      let v : length (take k vs) ≡ k = length-take-le k vs (omega arith) in
      let b = fields_length (take k ms) (take k vs) (m ∙ sym v) in
      omega arith

  -- one more field behind those that are written
  pub fields_more : ys ≡ field_text (get_or ms k E) (get_or vs k None) → xs ≡ (start ++ fields_text (take k ms) (take k vs)) ++ drop (3 * k + 1) line
      → put_mid (3 * k + 1) (3 * k + 1 + 3 - (3 * k + 1)) xs ys ≡ (start ++ fields_text (take (k + 1) ms) (take (k + 1) vs)) ++ drop (3 * (k + 1) + 1) line
  fields_more e q =
      put_behind (3 * k + 1) (3 * k + 1 + 3 - (3 * k + 1)) (3 * (k + 1) + 1) (start ++ fields_text (take k ms) (take k vs)) line xs ys q front (omega arith)
      ∙ ap (λ (t : List ℕ). t ++ drop (3 * (k + 1) + 1) line)
      (append_assoc start (fields_text (take k ms) (take k vs)) ys
      ∙ ap (λ (t : List ℕ). start ++ (fields_text (take k ms) (take k vs) ++ t)) e
      ∙ ap (λ (t : List ℕ). start ++ t) (sym (fields_push k ms vs (omega arith) (omega arith)))
      ∙ ap (λ (j : ℕ). start ++ fields_text (take j ms) (take j vs)) (sym (add-one k)))

pub fields_none : (ms : List Mark) (vs : List (Option ℕ)) (line : List ℕ) → line ≡ (take 1 line ++ fields_text (take 0 ms) (take 0 vs)) ++ drop (3 * 0 + 1) line
unfolding fields_text
fields_none ms vs line = sym (ap (λ (t : List ℕ). t ++ drop 1 line) (append-nil (take 1 line)) ∙ take-append-drop 1 line)

pub fields_all : (k : ℕ) (ms : List Mark) (vs : List (Option ℕ)) (start line xs : List ℕ) → k ≡ 6 → length ms ≡ 6 → length vs ≡ 6
    → xs ≡ (start ++ fields_text (take k ms) (take k vs)) ++ drop (3 * k + 1) line → xs ≡ (start ++ fields_text ms vs) ++ drop 19 line
fields_all k ms vs start line xs e lm lv q =
    q ∙ ap (λ (j : ℕ). (start ++ fields_text (take j ms) (take j vs)) ++ drop (3 * j + 1) line) e
    ∙ ap (λ (us : List Mark). (start ++ fields_text us (take 6 vs)) ++ drop 19 line) (take_all 6 ms (omega arith))
    ∙ ap (λ (us : List (Option ℕ)). (start ++ fields_text ms us) ++ drop 19 line) (take_all 6 vs (omega arith))

-- one turn over the marks and the fields with their count: which pair comes
pub pair_at : (ms : List Mark) (vs : List (Option ℕ)) (i k : ℕ) (m : Mark) (v : Option ℕ) → length ms ≡ 6 → length vs ≡ 6
    → (i < length (enumerate_from 0 (zip ms vs))) × (◌≡◌ {A = ℕ × (Mark × Option ℕ)} (k, (m, v)) (get_or (enumerate_from 0 (zip ms vs)) i (k, (m, v))))
    → (i < 6) × (k ≡ i) × (m ≡ get_or ms i E) × (v ≡ get_or vs i None)
pair_at ms vs i k m v lm lv t =
    let p = turn (zip ms vs) i k (m, v) t in
    let z = length-zip ms vs in
    let h : i < 6 = omega (arith, p.0) in
    let e : ◌≡◌ {A = Mark × Option ℕ} (m, v) (get_or ms i m, get_or vs i v) = p.2 ∙ get_or-zip ms vs i (m, v) (omega arith) (omega arith) in (
      h,
      p.1,
      ap (λ (q : Mark × Option ℕ). q.0) e ∙ get_or_default ms i m E (omega arith),
      ap (λ (q : Mark × Option ℕ). q.1) e ∙ get_or_default vs i v None (omega arith),
    )

-- a line by its letter, its fields and its end
pub line_whole : (b : ℕ) (text line xs : List ℕ) → length line ≡ 20 → length text ≡ 18
    → xs ≡ (take 1 (set line 0 b) ++ text) ++ drop 19 (set line 0 b) → set xs 19 10 ≡ b ∷ (text ++ 10 ∷ [])
line_whole b text [] xs l t q = absurd (omega arith)
line_whole b text (x ∷ line) xs l t q =
    let end : drop 19 (b ∷ line) ≡ get_or (b ∷ line) 19 0 ∷ [] =
    drop_more (b ∷ line) 19 0 (omega arith) ∙ ap (λ (s : List ℕ). get_or (b ∷ line) 19 0 ∷ s) (drop_all (19 + 1) (b ∷ line) (omega arith)) in
    ap (λ (s : List ℕ). set s 19 10) (q ∙ ap (λ (s : List ℕ). (b ∷ text) ++ s) end)
    ∙ set_at (b ∷ text) (get_or (b ∷ line) 19 0) [] 10 19 (ap suc t)

pub line_text : (c : Credential) → length (fields_text (marks_of (letter_of c)) (fields_of c)) ≡ 18
line_text c =
    let a = six_marks (letter_of c) in
    let b = six_fields c in
    let t = fields_length (marks_of (letter_of c)) (fields_of c) (a ∙ sym b) in
    omega arith

pub line_length : (c : Credential) → length (line_of c) ≡ 20
line_length c = let a = line_text c in let b = length-append (fields_text (marks_of (letter_of c)) (fields_of c)) (10 ∷ []) in omega arith

-- a buffer after one line
pub one_line : (c : Credential) (out ys : List ℕ) → 20 ≤ length out → ys ≡ line_of c → ys ++ drop 20 out ≡ write_after (c ∷ []) out
unfolding page_of
one_line c out ys h e =
    ap (λ (t : List ℕ). t ++ drop 20 out) (e ∙ sym (append-nil (line_of c)))
    ∙ sym (cond-false (ltb (length out) 20) _ _ (le-ltb (length out) 20 h))
