-- Decimal numbers in columns: right-justified, blanks on the left, no leading zero.
use Rattle.std.specs.Prelude.{◌≡◌, ℕ, zero, suc, ◌+◌, ◌-◌, ◌*◌, ◌/◌, ◌%◌, ◌^◌, ◌<◌, ◌≤◌, Bool, false, cond, List, [], ◌∷◌, ◌++◌, length, take, Some, None, Option, ◌==◌, nat_le, slice_index}
use Rattle.credential.specs.Memberships.{on_some}

-- what stands left of the last digit, in w columns
unfoldable pub lead : ℕ → ℕ → List ℕ
lead zero n = []
lead (suc w) n = lead w (n / 10) ++ cond (n == 0) 32 (48 + n % 10) ∷ []

-- a number in w columns
unfoldable pub numeral : ℕ → ℕ → List ℕ
numeral zero n = []
numeral (suc w) n = lead w (n / 10) ++ (48 + n % 10) ∷ []

abbrev pub digit : ℕ → Bool
digit b = cond (nat_le 48 b) (nat_le b 57) false

-- the value after one more column left of the last: a blank before any digit, or a digit that is no leading zero
abbrev pub next : ℕ → ℕ → Option ℕ
next v b =
    cond (b == 32)
    (cond (v == 0) (Some 0) None)
    (cond (digit b) (cond (v * 10 + (b - 48) == 0) None (Some (v * 10 + (b - 48)))) None)

-- the value of columns left of the last, behind columns of the value v
unfoldable pub leading : ℕ → List ℕ → Option ℕ
leading v [] = Some v
leading v (b ∷ bs) = on_some (next v b) (λ u. leading u bs)

-- the value after the last column
abbrev pub last : ℕ → ℕ → Option ℕ
last v b = cond (digit b) (Some (v * 10 + (b - 48))) None

-- the number in one to nine columns, if its form is lawful
abbrev pub number_in : List ℕ → Option ℕ
number_in bs =
    cond (nat_le 1 (length bs))
    (cond (nat_le (length bs) 9) (on_some (leading 0 (take (length bs - 1) bs)) (λ v. last v (slice_index bs (length bs - 1)))) None)
    None

-- what was read of columns is the number of which they are the numeral, and nothing was read if they are none's
pub record Numbered (bs : List ℕ) (r : Option ℕ) : Type 0 where
  pub of_read : (n : ℕ) → r ≡ Some n → numeral (length bs) n ≡ bs
  pub of_numeral : (n : ℕ) → 1 ≤ length bs → length bs ≤ 9 → n < 10 ^ length bs → numeral (length bs) n ≡ bs → r ≡ Some n
