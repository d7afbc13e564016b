-- A lawful page with a line more, and with a line less.
use Rattle.std.proofs.Common.{◌≡◌, ℕ, ◌+◌, ◌-◌, ◌*◌, ◌<◌, ◌≤◌, true, List, [], ◌∷◌, ◌++◌, length, take, drop, is_ok, Ok, sym, refl, ap, ◌∙◌, append_assoc, arith, length-append, length-drop}
use borrow.Rule.Slice.PartMut.{put_mid}
use Rattle.std.proofs.lemmas.List.{take-append-drop, take_at, drop_at, drop-drop, append-nil, length-take-le}
use Rattle.credential.specs.declared.credentials.Credential.{Credential}
use Rattle.page.specs.Lines.{line_of}
use Rattle.page.specs.Pages.{read_page, list_of, credentials_of, page_of}
use Rattle.page.proofs.RoundTrip.{page_forth, page-length}
use Rattle.page.proofs.Paging.{lawful_back}

page-append : (xs ys : List Credential) → page_of (xs ++ ys) ≡ page_of xs ++ page_of ys
unfolding page_of
page-append [] ys = refl
page-append (x ∷ xs) ys = ap (λ (t : List ℕ). line_of x ++ t) (page-append xs ys) ∙ sym (append_assoc (line_of x) (page_of xs) (page_of ys))

page_one : (c : Credential) → page_of (c ∷ []) ≡ line_of c
unfolding page_of
page_one c = append-nil (line_of c)

-- the text is lawful and reads as cs
abbrev pub Reads : List ℕ → List Credential → Type 0
Reads bs cs = (is_ok (read_page bs) ≡ true) × (credentials_of bs ≡ cs)

page_reads : (bs : List ℕ) (cs : List Credential) → length cs ≤ 256 → bs ≡ page_of cs → Reads bs cs
page_reads bs cs h e =
    let r : read_page bs ≡ Ok cs = ap read_page e ∙ page_forth cs h in
    (ap is_ok r, ap list_of r)

module _ (bs : List ℕ) (lawful : is_ok (read_page bs) ≡ true) where
  pub text_length : length bs ≡ 20 * length (credentials_of bs)
  text_length = ap length (sym (lawful_back bs lawful)) ∙ page-length (credentials_of bs)

  pub text_more : (after : List ℕ) (c : Credential) → length (credentials_of bs) < 256 → after ≡ bs ++ line_of c → Reads after (credentials_of bs ++ c ∷ [])
  text_more after c h e =
      let n : length (credentials_of bs ++ c ∷ []) ≡ length (credentials_of bs) + 1 = length-append (credentials_of bs) (c ∷ []) in
      page_reads after (credentials_of bs ++ c ∷ []) (omega arith)
      (e ∙ ap (λ (t : List ℕ). t ++ line_of c) (sym (lawful_back bs lawful)) ∙ ap (λ (t : List ℕ). page_of (credentials_of bs) ++ t) (sym (page_one c))
      ∙ sym (page-append (credentials_of bs) (c ∷ [])))

  module _ (k : ℕ) (h : k ≤ length (credentials_of bs)) where
    split : bs ≡ page_of (take k (credentials_of bs)) ++ page_of (drop k (credentials_of bs))
    split = sym (lawful_back bs lawful) ∙ ap page_of (sym (take-append-drop k (credentials_of bs))) ∙ page-append (take k (credentials_of bs)) (drop k (credentials_of bs))

    front_length : length (page_of (take k (credentials_of bs))) ≡ 20 * k
    front_length = page-length (take k (credentials_of bs)) ∙ ap (λ (n : ℕ). 20 * n) (length-take-le k (credentials_of bs) h)

    text_front : take (20 * k) bs ≡ page_of (take k (credentials_of bs))
    text_front = ap (λ (t : List ℕ). take (20 * k) t) split ∙ take_at (page_of (take k (credentials_of bs))) _ (20 * k) front_length

    text_rest : drop (20 * k) bs ≡ page_of (drop k (credentials_of bs))
    text_rest = ap (λ (t : List ℕ). drop (20 * k) t) split ∙ drop_at (page_of (take k (credentials_of bs))) _ (20 * k) front_length

  pub text_less : (after : List ℕ) (p : ℕ) → 1 ≤ p → p ≤ length (credentials_of bs) → length (credentials_of bs) ≤ 256
      → after ≡ take (20 * (p - 1)) bs ++ drop (20 * (p - 1) + 20) bs → Reads after (take (p - 1) (credentials_of bs) ++ drop p (credentials_of bs))
  text_less after p l h few e =
      let q : 20 * (p - 1) + 20 ≡ 20 * p = omega arith in
      let le : p - 1 ≤ length (credentials_of bs) = omega arith in
      let n = length-append (take (p - 1) (credentials_of bs)) (drop p (credentials_of bs)) in
      let m = length-take-le (p - 1) (credentials_of bs) le in
      let o = length-drop p (credentials_of bs) in
      page_reads after (take (p - 1) (credentials_of bs) ++ drop p (credentials_of bs)) (omega arith)
      (e ∙ ap (λ (t : List ℕ). t ++ drop (20 * (p - 1) + 20) bs) (text_front (p - 1) le)
      ∙ ap (λ (k : ℕ). page_of (take (p - 1) (credentials_of bs)) ++ drop k bs) q
      ∙ ap (λ (t : List ℕ). page_of (take (p - 1) (credentials_of bs)) ++ t) (text_rest p h)
      ∙ sym (page-append (take (p - 1) (credentials_of bs)) (drop p (credentials_of bs))))

-- bytes after a part of them is written
pub part_put : (a k n : ℕ) (xs ys zs : List ℕ) → n ≡ a + k → ys ≡ zs → put_mid a k xs ys ≡ take a xs ++ (zs ++ drop n xs)
part_put a k n xs ys zs m e =
    ap (λ (t : List ℕ). put_mid a k xs t) e
    ∙ ap (λ (t : List ℕ). take a xs ++ (zs ++ t)) (drop-drop k a xs ∙ ap (λ (j : ℕ). drop j xs) (sym m))
