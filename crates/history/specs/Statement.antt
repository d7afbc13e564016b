-- The statement's bytes.
use Rattle.std.specs.Prelude.{ℕ, zero, suc, ◌+◌, ◌*◌, ◌≤◌, cond, List, [], ◌∷◌, ◌++◌, map, length, ◌==◌}
use Rattle.page.specs.Numerals.{numeral}
use Rattle.history.specs.Events.{History}
use Rattle.history.specs.Words.{for, given, declined_of, handed_back_of, open_of}
use Rattle.history.specs.Contents.{Contents, figure, in_book}

-- the sum of a figure over the role names 1 to n
abbrev pub summed : ℕ → (ℕ → ℕ) → ℕ
summed zero f = 0
summed (suc n) f = summed n f + f (suc n)

-- figures in seven columns each, then the newline
abbrev pub columns : List ℕ → List ℕ
columns [] = 10 ∷ []
columns (n ∷ ns) = numeral 7 n ++ columns ns

-- by role name: offers given, offers declined, leases handed back, leases open, and the units of these
abbrev pub figures : (units givens declineds handed_backs opens : ℕ → ℕ) → List (ℕ → ℕ)
figures u g d b o = g ∷ d ∷ b ∷ o ∷ (λ r. o r * u r) ∷ []

-- the line of a role name, if an offer was given for it
abbrev pub role_line : (ℕ → ℕ) → List (ℕ → ℕ) → ℕ → List ℕ
role_line g fs r = cond (g r == 0) [] (numeral 3 r ++ columns (map (λ (f : ℕ → ℕ). f r) fs))

-- the lines of the role names 1 to n, rising
abbrev pub role_lines : (ℕ → ℕ) → List (ℕ → ℕ) → ℕ → List ℕ
role_lines g fs zero = []
role_lines g fs (suc n) = role_lines g fs n ++ role_line g fs (suc n)

-- the total line, its role name blank
abbrev pub total_line : List (ℕ → ℕ) → List ℕ
total_line fs = (32 ∷ 32 ∷ 32 ∷ []) ++ columns (map (summed 16) fs)

-- the statement: the lines of the role names, then the total line
abbrev pub stated : (units givens declineds handed_backs opens : ℕ → ℕ) → List ℕ
stated u g d b o = role_lines g (figures u g d b o) 16 ++ total_line (figures u g d b o)

-- the units of one lease, by role name
abbrev pub units : List ℕ
units = 1 ∷ 1 ∷ 1 ∷ 1 ∷ 1 ∷ 1 ∷ 1 ∷ 1 ∷ 2 ∷ 2 ∷ 2 ∷ 2 ∷ 5 ∷ 5 ∷ 5 ∷ 5 ∷ []

-- the statement of a vault with these contents
abbrev pub statement : List ℕ → Contents → List ℕ
statement us v =
    stated (figure us) (figure v.figures.givens) (figure v.figures.declineds) (figure v.figures.handed_backs) (λ r. in_book (λ l b. for r l) v.book)

-- the statement by the calls
abbrev pub statement_by : List ℕ → History → List ℕ
statement_by us h = stated (figure us) (λ r. given (for r) h) (λ r. declined_of (for r) h) (λ r. handed_back_of (for r) h) (λ r. open_of (for r) h)

-- the most bytes of a statement: seventeen lines of a role name, five figures and the newline
abbrev pub most_bytes : ℕ
most_bytes = 17 * (3 + 5 * 7 + 1)

-- no statement has more
abbrev pub StatementsFit : Type 0
StatementsFit = (u g d b o : ℕ → ℕ) → length (stated u g d b o) ≤ most_bytes
