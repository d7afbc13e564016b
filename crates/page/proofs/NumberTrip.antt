-- A number is read back from its columns, and only its own columns are read as it.
use Rattle.std.proofs.Common.{◌≡◌, ℕ, zero, suc, ◌+◌, ◌-◌, ◌*◌, ◌/◌, ◌%◌, ◌^◌, ◌<◌, ◌≤◌, Bool, true, false, cond, eqb, leb, List, [], ◌∷◌, ◌++◌, length, get_or, take, Some, None, Option, sym, refl, ap, ◌∙◌, subst, append_assoc, add-zero, pow-suc, arith, length-append}
use Rattle.std.proofs.lemmas.Bool.Decides.{nat_tests}
use Rattle.std.proofs.lemmas.Bool.{leb-true, le-leb, cond-true}
use Rattle.std.proofs.lemmas.List.{append-nil, take_at, take_more, take_all, get_or_at, length-take-le}
use Rattle.credential.specs.Memberships.{on_some}
use Rattle.page.specs.Numerals.{lead, numeral, next, last, leading, number_in, Numbered}

-- what went on to a value was there
on_some_lem : {A B : Type 0} (o : Option A) (f : A → Option B) (y : B) → on_some o f ≡ Some y → (x : A) × (o ≡ Some x) × (f x ≡ Some y)
on_some_lem None f y e = let z : ◌≡◌ {A = ℕ} 0 1 = cc in absurd (omega arith)
on_some_lem (Some x) f y e = (x, refl, e)

cond_some : {A : Type 0} (b : Bool) (o : Option A) (y : A) → cond b o None ≡ Some y → (b ≡ true) × (o ≡ Some y)
cond_some true o y e = (refl, e)
cond_some false o y e = let z : ◌≡◌ {A = ℕ} 0 1 = cc in absurd (omega arith)

-- one column

next_front : (v b u : ℕ) → next v b ≡ Some u → u / 10 ≡ v
next_front v b u e = grind (arith, nat_tests)

next_column : (v b u : ℕ) → next v b ≡ Some u → cond (eqb u 0) 32 (48 + u % 10) ≡ b
next_column v b u e = grind (arith, nat_tests)

next-is : (n : ℕ) → next (n / 10) (cond (eqb n 0) 32 (48 + n % 10)) ≡ Some n
next-is n = grind (arith, nat_tests)

last_front : (v b n : ℕ) → last v b ≡ Some n → n / 10 ≡ v
last_front v b n e = grind (arith, nat_tests)

last_column : (v b n : ℕ) → last v b ≡ Some n → 48 + n % 10 ≡ b
last_column v b n e = grind (arith, nat_tests)

last-is : (n : ℕ) → last (n / 10) (48 + n % 10) ≡ Some n
last-is n = grind (arith, nat_tests)

-- the columns left of the last

lead-next : (w v b u : ℕ) → next v b ≡ Some u → lead (suc w) u ≡ lead w v ++ b ∷ []
unfolding lead
lead-next w v b u e =
    ap (λ (n : ℕ). lead w n ++ cond (eqb u 0) 32 (48 + u % 10) ∷ []) (next_front v b u e)
    ∙ ap (λ (a : ℕ). lead w v ++ a ∷ []) (next_column v b u e)

lead_back : (bs : List ℕ) (w v u : ℕ) → leading v bs ≡ Some u → lead (w + length bs) u ≡ lead w v ++ bs
unfolding leading
lead_back [] w v u e = let q : v ≡ u = cc in ap (λ (k : ℕ). lead k u) (add-zero w) ∙ ap (λ (n : ℕ). lead w n) (sym q) ∙ sym (append-nil (lead w v))
lead_back (b ∷ bs) w v u e =
    let p = on_some_lem (next v b) (λ x. leading x bs) u e in
    let k : w + suc (length bs) ≡ suc w + length bs = omega arith in
    ap (λ (k : ℕ). lead k u) k ∙ lead_back bs (suc w) p.0 u p.2
    ∙ ap (λ (t : List ℕ). t ++ bs) (lead-next w v b p.0 p.1) ∙ append_assoc (lead w v) (b ∷ []) bs

leading_push : (xs : List ℕ) (v b : ℕ) → leading v (xs ++ b ∷ []) ≡ on_some (leading v xs) (λ u. next u b)
unfolding leading
leading_push [] v b = same (next v b)
  where
    same : (o : Option ℕ) → on_some o (λ u. Some u) ≡ o
    same None = refl
    same (Some x) = refl
leading_push (x ∷ xs) v b = step (next v x) (λ u. leading_push xs u b)
  where
    step : (o : Option ℕ) → ((u : ℕ) → leading u (xs ++ b ∷ []) ≡ on_some (leading u xs) (λ u. next u b))
        → on_some o (λ u. leading u (xs ++ b ∷ [])) ≡ on_some (on_some o (λ u. leading u xs)) (λ u. next u b)
    step None more = refl
    step (Some u) more = more u

lead_forth : (w n : ℕ) → n < 10 ^ w → leading 0 (lead w n) ≡ Some n
unfolding leading lead
lead_forth zero n h = let z : 0 ≡ n = omega arith in ap Some z
lead_forth (suc w) n h =
    let p : 10 ^ suc w ≡ 10 ^ w * 10 = pow-suc 10 w in
    leading_push (lead w (n / 10)) 0 (cond (eqb n 0) 32 (48 + n % 10))
    ∙ ap (λ (o : Option ℕ). on_some o (λ u. next u (cond (eqb n 0) 32 (48 + n % 10)))) (lead_forth w (n / 10) (omega arith))
    ∙ next-is n

pub lead-length : (w n : ℕ) → length (lead w n) ≡ w
unfolding lead
lead-length zero n = refl
lead-length (suc w) n = length-append (lead w (n / 10)) _ ∙ (let a = lead-length w (n / 10) in omega arith)

-- all columns

back_at : (bs : List ℕ) (w n : ℕ) → length bs ≡ suc w → on_some (leading 0 (take w bs)) (λ v. last v (get_or bs w 0)) ≡ Some n → numeral (suc w) n ≡ bs
unfolding numeral lead
back_at bs w n l e =
    let p = on_some_lem (leading 0 (take w bs)) (λ v. last v (get_or bs w 0)) n e in
    let t : length (take w bs) ≡ w = length-take-le w bs (omega arith) in
    ap (λ (v : ℕ). lead w v ++ (48 + n % 10) ∷ []) (last_front p.0 (get_or bs w 0) n p.2)
    ∙ ap (λ (b : ℕ). lead w p.0 ++ b ∷ []) (last_column p.0 (get_or bs w 0) n p.2)
    ∙ ap (λ (k : ℕ). lead k p.0 ++ get_or bs w 0 ∷ []) (let k : w ≡ 0 + length (take w bs) = omega arith in k)
    ∙ ap (λ (t : List ℕ). t ++ get_or bs w 0 ∷ []) (lead_back (take w bs) 0 0 p.0 p.1)
    ∙ sym (take_more bs w 0 (omega arith)) ∙ take_all (w + 1) bs (omega arith)

pub number_back : (bs : List ℕ) (n : ℕ) → number_in bs ≡ Some n → numeral (length bs) n ≡ bs
number_back bs n e =
    let p = cond_some (leb 1 (length bs)) _ n e in
    let q = cond_some (leb (length bs) 9) _ n p.1 in
    let k : length bs ≡ suc (length bs - 1) = (let h = leb-true 1 (length bs) p.0 in omega arith) in
    ap (λ (w : ℕ). numeral w n) k ∙ back_at bs (length bs - 1) n k q.1

forth_at : (w n : ℕ) → suc w ≤ 9 → n < 10 ^ suc w → number_in (numeral (suc w) n) ≡ Some n
unfolding numeral
forth_at w n h l =
    let p : 10 ^ suc w ≡ 10 ^ w * 10 = pow-suc 10 w in
    let a : length (lead w (n / 10)) ≡ w = lead-length w (n / 10) in
    let m : length (lead w (n / 10) ++ (48 + n % 10) ∷ []) ≡ suc w = length-append (lead w (n / 10)) _ ∙ omega arith in
    let k : length (lead w (n / 10) ++ (48 + n % 10) ∷ []) - 1 ≡ w = omega arith in
    cond-true (leb 1 (length (lead w (n / 10) ++ (48 + n % 10) ∷ []))) _ _ (le-leb 1 _ (omega arith))
    ∙ cond-true (leb (length (lead w (n / 10) ++ (48 + n % 10) ∷ [])) 9) _ _ (le-leb _ 9 (omega arith))
    ∙ ap (λ (j : ℕ). on_some (leading 0 (take j (lead w (n / 10) ++ (48 + n % 10) ∷ []))) (λ v. last v (get_or (lead w (n / 10) ++ (48 + n % 10) ∷ []) j 0))) k
    ∙ ap (λ (t : List ℕ). on_some (leading 0 t) (λ v. last v (get_or (lead w (n / 10) ++ (48 + n % 10) ∷ []) w 0))) (take_at (lead w (n / 10)) _ w a)
    ∙ ap (λ (o : Option ℕ). on_some o (λ v. last v (get_or (lead w (n / 10) ++ (48 + n % 10) ∷ []) w 0))) (lead_forth w (n / 10) (omega arith))
    ∙ ap (λ (b : ℕ). last (n / 10) b) (get_or_at (lead w (n / 10)) (48 + n % 10) [] 0 w a)
    ∙ last-is n

pub number_forth : (w n : ℕ) → 1 ≤ w → w ≤ 9 → n < 10 ^ w → number_in (numeral w n) ≡ Some n
number_forth zero n a b h = absurd (omega arith)
number_forth (suc w) n a b h = forth_at w n b h

pub numbered : (bs : List ℕ) → Numbered bs (number_in bs)
numbered bs = record {
  of_read = λ n e. number_back bs n e;
  of_numeral = λ n a b h e. subst (λ (cs : List ℕ). number_in cs ≡ Some n) e (number_forth (length bs) n a b h);
}
