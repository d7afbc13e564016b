-- A page line by line: its test, its credentials by place, and the buffer that it is written into.
use Rattle.std.proofs.Common.{◌≡◌, ℕ, ◌+◌, ◌-◌, ◌*◌, ◌/◌, ◌<◌, ◌≤◌, min, Bool, true, false, cond, eqb, ltb, List, [], ◌∷◌, ◌++◌, length, get_or, take, drop, is_ok, IfOk, Some, None, Ok, Err, Result, sym, refl, ap, ◌∙◌, subst, ⊎_elim, append_assoc, zero-add, arith, length-drop}
use borrow.Rule.Slice.PartMut.{put_mid}
use Rattle.std.proofs.lemmas.List.{take_all, take_at, take_min, take_more, drop_all, drop_at, drop-drop, append-nil, length-append, length-take-le, nil_from_length}
use Rattle.std.proofs.lemmas.Option.{slice_get_past}
use Rattle.std.proofs.lemmas.Bool.{cases_lt, cond-true, cond-false, le-ltb, lt-ltb, eq-eqb, ne_eqb, false≢true}
use Rattle.std.specs.Result.{result_ok}
use Rattle.std.specs.List.{slice_get}
use Rattle.credential.specs.declared.credentials.Credential.{Credential}
use Rattle.credential.specs.declared.refusals.Refusal.{Refusal}
use Rattle.credential.specs.Refusals.{Named, refused, answered}
use Rattle.credential.specs.Sources.{placed}
use Rattle.page.specs.Lines.{collected, read_line, line_of}
use Rattle.page.specs.Pages.{line_at, read_page, list_of, credentials_of, credential_at, page_of, write_answer, write_after}
use Rattle.page.proofs.Collecting.{collect_at}
use Rattle.page.proofs.Columns.{put_behind}
use Rattle.page.proofs.RoundTrip.{never, page_lines, page_back, page-length, page_forth}

-- a chunk of what is left behind i lines: the bytes of a line, or of what is left, and what comes after it
module _ (bytes rest x more : List ℕ) (i : ℕ) (r : rest ≡ drop (20 * i) bytes) (e : rest ≡ x ++ more) (l : length x ≡ min 20 (length rest)) where
  parts : length rest ≡ length x + length more
  parts = ap length e ∙ length-append x more

  pub chunk : x ≡ take 20 (drop (20 * i) bytes)
  chunk =
      sym (ap (λ (t : List ℕ). take 20 t) (sym r) ∙ sym (take_min 20 rest) ∙ ap (λ (n : ℕ). take n rest) (sym l) ∙ ap (λ (t : List ℕ). take (length x) t) e
      ∙ take_at x more (length x) refl)

  pub chunk_rest : more ≡ drop (20 * (i + 1)) bytes
  chunk_rest =
      let n : length rest ≡ length bytes - 20 * i = ap length r ∙ length-drop (20 * i) bytes in
      let p = parts in
      let d : 20 * (i + 1) ≡ 20 * i + 20 = omega arith in
      ⊎_elim (λ (h : length rest < 20). nil_from_length more (omega arith) ∙ sym (drop_all (20 * (i + 1)) bytes (omega arith)))
      (λ (h : 20 ≤ length rest).
      sym (ap (λ (j : ℕ). drop j bytes) d ∙ sym (drop-drop 20 (20 * i) bytes) ∙ ap (λ (t : List ℕ). drop 20 t) (sym r ∙ e) ∙ drop_at x more 20 (omega arith)))
      (cases_lt (length rest) 20)

-- an answer of the reader as an option
pub as_option : (r : Result Credential Refusal) (c : Credential) → answered r ≡ Ok c → result_ok r ≡ Some c
as_option (Ok x) c e = cc
as_option (Err d) c e = never _ c e

-- a lawful page

ok_is : (r : Result (List Credential) Named) → is_ok r ≡ true → r ≡ Ok (list_of r)
ok_is (Ok cs) e = refl
ok_is (Err d) e = absurd (false≢true e)

module _ (bytes : List ℕ) (lawful : is_ok (read_page bytes) ≡ true) where
  pub lawful_back : page_of (credentials_of bytes) ≡ bytes
  lawful_back = page_back bytes (credentials_of bytes) (ok_is (read_page bytes) lawful)

  lawful-length : length bytes ≡ 20 * length (credentials_of bytes)
  lawful-length = ap length (sym lawful_back) ∙ page-length (credentials_of bytes)

  pub counts : length bytes / 20 ≡ length (credentials_of bytes)
  counts = let l = lawful-length in omega arith

  pub few : length bytes / 20 ≤ 256
  few = let l = (page_lines bytes (credentials_of bytes) (ok_is (read_page bytes) lawful)).0 in omega arith

  pub line_there : (place : ℕ) → 1 ≤ place → place ≤ length bytes / 20
      → (c : Credential) × (read_line (take 20 (drop (20 * (place - 1)) bytes)) place ≡ Ok c) × (placed (credentials_of bytes) place ≡ Some c)
  line_there place a b =
      let l : (length bytes + 19) / 20 ≡ length bytes / 20 = (let q = lawful-length in omega arith) in
      found place a
      ((collect_at ((length bytes + 19) / 20) (line_at bytes) 0 (credentials_of bytes) (page_lines bytes (credentials_of bytes) (ok_is (read_page bytes) lawful)).1).1 (place - 1) (omega arith))
    where
      found : (place : ℕ) → 1 ≤ place → (c : Credential) × (line_at bytes (0 + (place - 1)) ≡ Ok c) × (slice_get (credentials_of bytes) (place - 1) ≡ Some c)
          → (c : Credential) × (read_line (take 20 (drop (20 * (place - 1)) bytes)) place ≡ Ok c) × (placed (credentials_of bytes) place ≡ Some c)
      found place a (c, e, s) =
          let n : place - 1 + 1 ≡ place = omega arith in
          let z : place ≡ 0 → ⊥ = λ e. omega arith in (
            c,
            ap (λ (k : ℕ). read_line (take 20 (drop (20 * (place - 1)) bytes)) k) (sym n) ∙ ap (λ (k : ℕ). line_at bytes k) (sym (zero-add (place - 1))) ∙ e,
            cond-false (eqb place 0) _ _ (ne_eqb place 0 z) ∙ s,
          )

pub placed_low : (cs : List Credential) (place : ℕ) → place < 1 → None ≡ placed cs place
placed_low cs place h = let z : place ≡ 0 = omega arith in sym (cond-true (eqb place 0) _ _ (eq-eqb place 0 z))

pub placed_past : (cs : List Credential) (place : ℕ) → length cs < place → None ≡ placed cs place
placed_past cs place h =
    let z : place ≡ 0 → ⊥ = λ e. omega arith in
    sym (cond-false (eqb place 0) _ _ (ne_eqb place 0 z) ∙ slice_get_past cs (place - 1) (omega arith))

-- the credentials of a lawful page by their places
pub credential_there : (bytes : List ℕ) → is_ok (read_page bytes) ≡ true → (place : ℕ) → credential_at bytes place ≡ placed (credentials_of bytes) place
credential_there bytes lawful place =
    let n = counts bytes lawful in
    ⊎_elim
    (λ (h : place < 1). cond-true _ _ _ (lt-ltb place 1 h) ∙ placed_low (credentials_of bytes) place h)
    (λ (a : 1 ≤ place).
    ⊎_elim
    (λ (h : length bytes / 20 < place). cond-false _ _ _ (le-ltb place 1 a) ∙ cond-true _ _ _ (lt-ltb (length bytes / 20) place h) ∙ placed_past (credentials_of bytes) place (omega arith))
    (λ (b : place ≤ length bytes / 20).
    let p = line_there bytes lawful place a b in
    let k : place - 1 + 1 ≡ place = omega arith in
    cond-false _ _ _ (le-ltb place 1 a) ∙ cond-false _ _ _ (le-ltb (length bytes / 20) place b)
    ∙ ap result_ok (ap (λ (j : ℕ). read_line (take 20 (drop (20 * (place - 1)) bytes)) j) k ∙ p.1) ∙ sym p.2)
    (cases_lt (length bytes / 20) place))
    (cases_lt place 1)

pub empty_lawful : is_ok (read_page []) ≡ true
unfolding collected
empty_lawful = refl

pub empty_credentials : credentials_of [] ≡ []
unfolding collected
empty_credentials = refl

-- a buffer into which a page is written

page_push : (cs : List Credential) (c : Credential) → page_of (cs ++ c ∷ []) ≡ page_of cs ++ line_of c
unfolding page_of
page_push [] c = append-nil (line_of c)
page_push (d ∷ cs) c = ap (λ (t : List ℕ). line_of d ++ t) (page_push cs c) ∙ sym (append_assoc (line_of d) (page_of cs) (line_of c))

module _ (cs : List Credential) (out xs : List ℕ) (i : ℕ) (q : xs ≡ page_of (take i cs) ++ drop (20 * i) out) where
  page_more : (c : Credential) (ys : List ℕ) → i < length cs → c ≡ get_or cs i c → ys ≡ line_of c
      → put_mid (20 * i) (20 * i + 20 - 20 * i) xs ys ≡ page_of (take (i + 1) cs) ++ drop (20 * (i + 1)) out
  page_more c ys h e y =
      let l : length (take i cs) ≡ i = length-take-le i cs (omega arith) in
      let front : length (page_of (take i cs)) ≡ 20 * i = page-length (take i cs) ∙ ap (λ (n : ℕ). 20 * n) l in
      let more : page_of (take i cs) ++ ys ≡ page_of (take (i + 1) cs) =
      ap (λ (t : List ℕ). page_of (take i cs) ++ t) y ∙ sym (page_push (take i cs) c)
      ∙ ap (λ (d : Credential). page_of (take i cs ++ d ∷ [])) e ∙ ap page_of (sym (take_more cs i c h)) in
      put_behind (20 * i) (20 * i + 20 - 20 * i) (20 * (i + 1)) (page_of (take i cs)) out xs ys q front (omega arith)
      ∙ ap (λ (t : List ℕ). t ++ drop (20 * (i + 1)) out) more

  pub page_more_at : (a : ℕ) → a ≡ 20 * i → (c : Credential) (ys : List ℕ) → i < length cs → c ≡ get_or cs i c → ys ≡ line_of c
      → put_mid a (a + 20 - a) xs ys ≡ page_of (take (i + 1) cs) ++ drop (20 * (i + 1)) out
  page_more_at a m c ys h e y = subst (λ (b : ℕ). put_mid b (b + 20 - b) xs ys ≡ page_of (take (i + 1) cs) ++ drop (20 * (i + 1)) out) (sym m) (page_more c ys h e y)

  pub page-all : i ≡ length cs → xs ≡ page_of cs ++ drop (20 * length cs) out
  page-all e =
      q ∙ ap (λ (us : List Credential). page_of us ++ drop (20 * i) out) (take_all i cs (omega arith))
      ∙ ap (λ (n : ℕ). page_of cs ++ drop (20 * n) out) e

pub page-none : (cs : List Credential) (out : List ℕ) → out ≡ page_of (take 0 cs) ++ drop (20 * 0) out
unfolding page_of
page-none cs out = refl

module _ (cs : List Credential) (out : List ℕ) where
  pub too_short : length out < 20 * length cs → ltb (length out) (20 * length cs) ≡ true
  too_short h = lt-ltb (length out) (20 * length cs) h

  pub long_enough : 20 * length cs ≤ length out → ltb (length out) (20 * length cs) ≡ false
  long_enough h = le-ltb (length out) (20 * length cs) h

-- what was written is read back
pub written_read : (cs : List Credential) (rest : List ℕ) (n : ℕ) → length cs ≤ 256 → n ≡ 20 * length cs → read_page (take n (page_of cs ++ rest)) ≡ Ok cs
written_read cs rest n h e = ap read_page (take_at (page_of cs) rest n (page-length cs ∙ sym e)) ∙ page_forth cs h

-- a page that was read comes out byte for byte
pub written_back : (bytes : List ℕ) → is_ok (read_page bytes) ≡ true → (out xs : List ℕ) (r : Result ℕ Refusal)
    → answered r ≡ write_answer (credentials_of bytes) out → xs ≡ write_after (credentials_of bytes) out → IfOk r (λ n. xs ≡ bytes ++ drop n out)
written_back bytes lawful out xs (Err d) e w = tt
written_back bytes lawful out xs (Ok n) e w = by (ltb (length out) (20 * length (credentials_of bytes))) e w
  where
    by : (b : Bool) → ◌≡◌ {A = Result ℕ Named} (Ok n) (cond b (Err (refused 9)) (Ok (20 * length (credentials_of bytes))))
        → xs ≡ cond b out (page_of (credentials_of bytes) ++ drop (20 * length (credentials_of bytes)) out) → xs ≡ bytes ++ drop n out
    by true e w = never (refused 9) n (sym e)
    by false e w =
        let m : n ≡ 20 * length (credentials_of bytes) = cc in
        w ∙ ap (λ (t : List ℕ). t ++ drop (20 * length (credentials_of bytes)) out) (lawful_back bytes lawful) ∙ ap (λ (k : ℕ). bytes ++ drop k out) (sym m)
