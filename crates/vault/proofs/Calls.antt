-- What holds of each call of a closure that no call changes.
use Rattle.std.proofs.Common.{◌≡◌, ℕ, zero, suc, ◌+◌, ◌<◌, ◌≤◌, List, get_or, sym, subst, ⊎_elim, arith}
use Rattle.std.proofs.lemmas.Bool.{cases_lt}
use denote.Param.Members.{Mut, Called}
use Rattle.std.specs.Array.{IsFromFnResultFrom}

pub each_call : {F B : Type 0} (g : Mut F (ℕ × Unit {0}) B) (P : ℕ → B → Type 0) (f : F) → ((i : ℕ) (y : B) (q : F) → i < 16 → Called g f (i, tt) y q → (q ≡ f) × P i y)
    → (ys : List B) (i n : ℕ) → i + n ≤ 16 → IsFromFnResultFrom g f ys i n → (k : ℕ) (d : B) → i ≤ k → k < i + n → P k (get_or ys k d)
each_call g P f each ys i zero most r k d low high = absurd (omega arith)
each_call {F} {B} g P f each ys i (suc n) most r k d low high =
    let e = each i r.1 r.0 (omega arith) r.3 in
    let here : P i (get_or ys i d) = subst (P i) (sym (r.2.1 d)) e.1 in
    ⊎_elim
    (λ (lt : i < k). each_call g P f each ys (i + 1) n (omega arith) (subst (λ (p : F). IsFromFnResultFrom g p ys (i + 1) n) e.0 r.4) k d (omega arith) (omega arith))
    (λ (le : k ≤ i). let same : i ≡ k = omega arith in subst (λ (m : ℕ). P m (get_or ys m d)) same here)
    (cases_lt i k)
