-- Numbers of one range are equal where they are the same number, and are made of that.
use Rattle.std.proofs.Common.{◌≡◌, ℕ, ◌≤◌, Bool, true, false, leb, Ok, refl, ap, arith, leb-false}
use mathlib.Core.HLevel.{is_prop→PathP}
use native.Mathlib.Bridge.{le_prop}
use Rattle.credential.specs.declared.numbers.Number.{Number}
use Rattle.credential.specs.Numbers.{within, number_of}

pub number_path : {most : ℕ} (a b : Number most) → a.number ≡ b.number → a ≡ b
number_path {most} a b p = λ i. record {
  number = p i;
  low = is_prop→PathP (λ j. 1 ≤ p j) (λ j. le_prop {n = 1} {m = p j}) a.low b.low i;
  high = is_prop→PathP (λ j. p j ≤ most) (λ j. le_prop {n = p j} {m = most}) a.high b.high i;
}

-- a number within its range gives what it makes
pub within-is : {X : Type 0} (most n : ℕ) (make : 1 ≤ n → n ≤ most → X) (x : X) → ((low : 1 ≤ n) (high : n ≤ most) → make low high ≡ x)
    → 1 ≤ n → n ≤ most → (l h : Bool) (p : leb 1 n ≡ l) (q : leb n most ≡ h) → within most n make l h p q ≡ Ok x
within-is most n make x e a b true true p q = ap Ok (e _ _)
within-is most n make x e a b true false p q = absurd (omega (arith, leb-false n most q))
within-is most n make x e a b false true p q = absurd (omega (arith, leb-false 1 n p))
within-is most n make x e a b false false p q = absurd (omega (arith, leb-false 1 n p))

pub number_of-is : {most : ℕ} (e : Number most) → number_of most e.number ≡ Ok e
number_of-is {most} e =
    within-is most e.number _ e (λ low high. number_path (record { number = e.number; low = low; high = high }) e refl) e.low e.high _ _ refl refl
