-- A table by its few entries that are not F 1.
use Rattle.std.specs.Prelude.{ℕ, zero, suc, ◌+◌, ◌-◌, ◌*◌, true, false, List, [], ◌∷◌, ◌==◌}
use Rattle.model.specs.Tables.{Table}

-- an entry: its place, verdict byte and number
pub record Row : Type 0 where
  pub at : ℕ
  pub verdict : ℕ
  pub number : ℕ

-- the entry of (a, r, d)
abbrev pub row : ℕ → ℕ → ℕ → ℕ → ℕ → Row
row a r d v n = record { at = ((a - 1) * 16 + (r - 1)) * 32 + (d - 1); verdict = v; number = n }

-- the verdict and the number at a place, F 1 where no row has it
abbrev pub verdict_in : List Row → ℕ → ℕ
verdict_in [] p = 70
verdict_in (x ∷ xs) p = let rest = verdict_in xs p in elim (x.at == p) [ true ↦ x.verdict | false ↦ rest ]

abbrev pub number_in : List Row → ℕ → ℕ
number_in [] p = 1
number_in (x ∷ xs) p = let rest = number_in xs p in elim (x.at == p) [ true ↦ x.number | false ↦ rest ]

-- f i, f (i + 1) and so on, k in all
unfoldable pub listed : (ℕ → ℕ) → ℕ → ℕ → List ℕ
listed f i zero = []
listed f i (suc k) = f i ∷ listed f (suc i) k

-- the whole table
unfoldable pub whole : List Row → Table
whole rows = record { verdicts = listed (verdict_in rows) 0 16384; numbers = listed (number_in rows) 0 16384 }
