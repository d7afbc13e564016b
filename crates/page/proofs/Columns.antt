-- A buffer whose front is written, part after part, by a loop that counts.
use Rattle.std.proofs.Common.{◌≡◌, ℕ, ◌+◌, ◌<◌, List, ◌++◌, length, get_or, drop, sym, ap, ◌∙◌, zero-add, append_assoc, arith}
use borrow.Rule.Slice.PartMut.{put_mid}
use Rattle.std.proofs.lemmas.List.{take_at, drop_at, drop-drop}
use Rattle.std.proofs.lemmas.List.FromFn.{length-enumerate_from, get_or-enumerate_from}
use Rattle.std.specs.List.{enumerate_from}

-- the next part goes behind the front, and what comes after it stays
pub put_next : {X : Type 0} (a k : ℕ) (front rest xs ys : List X) → xs ≡ front ++ rest → length front ≡ a
    → put_mid a k xs ys ≡ (front ++ ys) ++ drop k rest
put_next {X} a k front rest xs ys e l =
    ap (λ (t : List X). put_mid a k t ys) e
    ∙ ap (λ (t : List X). t ++ (ys ++ drop k (drop a (front ++ rest)))) (take_at front rest a l)
    ∙ ap (λ (t : List X). front ++ (ys ++ drop k t)) (drop_at front rest a l)
    ∙ sym (append_assoc front ys (drop k rest))

-- the same over a buffer of which all behind the front is as it was
pub put_behind : {X : Type 0} (a k n : ℕ) (front out xs ys : List X) → xs ≡ front ++ drop a out → length front ≡ a → n ≡ a + k
    → put_mid a k xs ys ≡ (front ++ ys) ++ drop n out
put_behind {X} a k n front out xs ys e l m =
    put_next a k front (drop a out) xs ys e l
    ∙ ap (λ (t : List X). (front ++ ys) ++ t) (drop-drop k a out ∙ ap (λ (j : ℕ). drop j out) (sym m))

-- one turn of a loop that counts: which item comes, and with which count
pub turn : {X : Type 0} (xs : List X) (n i : ℕ) (x : X) → (n < length (enumerate_from 0 xs)) × (◌≡◌ {A = ℕ × X} (i, x) (get_or (enumerate_from 0 xs) n (i, x)))
    → (n < length xs) × (i ≡ n) × (x ≡ get_or xs n x)
turn {X} xs n i x t =
    let l = length-enumerate_from 0 xs in
    let h : n < length xs = omega (arith, t.0) in
    let e : ◌≡◌ {A = ℕ × X} (i, x) (0 + n, get_or xs n x) = t.1 ∙ get_or-enumerate_from 0 xs n (i, x) h in
    (h, ap (λ (p : ℕ × X). p.0) e ∙ zero-add n, ap (λ (p : ℕ × X). p.1) e)
