-- The statement of sixteen tallies, and the buffer that it is written into.
use Rattle.std.specs.Prelude.{ℕ, ◌+◌, ◌*◌, ◌<◌, ◌≤◌, cond, List, [], ◌∷◌, ◌++◌, map, length, drop, Ok, Err, Result, nat_lt}
use Rattle.credential.specs.Refusals.{Named, refused}
use Rattle.history.specs.Contents.{figure}
use Rattle.history.specs.Statement.{summed, columns, figures, role_lines, stated, most_bytes}
use Rattle.vault.specs.declared.statement.Tally.{Tally}
use Rattle.vault.specs.declared.statement.Row.{Row}

-- a figure of the tallies, by role name
abbrev pub givens : List Tally → ℕ → ℕ
givens ts = figure (map (λ (t : Tally). t.given) ts)

abbrev pub declineds : List Tally → ℕ → ℕ
declineds ts = figure (map (λ (t : Tally). t.declined) ts)

abbrev pub handed_backs : List Tally → ℕ → ℕ
handed_backs ts = figure (map (λ (t : Tally). t.handed_back) ts)

abbrev pub opens : List Tally → ℕ → ℕ
opens ts = figure (map (λ (t : Tally). t.«open») ts)

-- the five figures of the lines, under the units of the role names
abbrev pub all_figures : List ℕ → List Tally → List (ℕ → ℕ)
all_figures us ts = figures (figure us) (givens ts) (declineds ts) (handed_backs ts) (opens ts)

-- the lines of the role names 1 to n, and the statement
unfoldable pub lines_to : ℕ → List ℕ → List Tally → List ℕ
lines_to n us ts = role_lines (givens ts) (all_figures us ts) n

unfoldable pub statement_of : List ℕ → List Tally → List ℕ
statement_of us ts = stated (figure us) (givens ts) (declineds ts) (handed_backs ts) (opens ts)

-- what writing a statement answers, and what the buffer holds after
abbrev pub statement_answer : List ℕ → List ℕ → Result ℕ Named
statement_answer text out = cond (nat_lt (length out) most_bytes) (Err (refused 10)) (Ok (length text))

abbrev pub statement_after : List ℕ → List ℕ → List ℕ
statement_after text out = cond (nat_lt (length out) most_bytes) out (text ++ drop (length text) out)

-- the row of a tally, a lease of which has so many units
abbrev pub row_of : Tally → ℕ → Row
row_of t u = record { given = t.given; declined = t.declined; handed_back = t.handed_back; «open» = t.«open»; units = t.«open» * u }

-- two rows, figure by figure
abbrev pub joint : Row → Row → Row
joint a b = record { given = a.given + b.given; declined = a.declined + b.declined; handed_back = a.handed_back + b.handed_back; «open» = a.«open» + b.«open»; units = a.units + b.units }

-- they can be joined
abbrev pub Room : Row → Row → Type 0
Room a b =
    (a.given + b.given < 4294967296)
    × (a.declined + b.declined < 4294967296)
    × (a.handed_back + b.handed_back < 4294967296)
    × (a.«open» + b.«open» < 4294967296)
    × (a.units + b.units < 4294967296)

-- the sums over the role names 1 to n
unfoldable pub sums_to : ℕ → List ℕ → List Tally → Row
sums_to n us ts =
    record {
      given = summed n (givens ts);
      declined = summed n (declineds ts);
      handed_back = summed n (handed_backs ts);
      «open» = summed n (opens ts);
      units = summed n (λ r. opens ts r * figure us r);
    }

-- the figures of a row, in the order of their columns
abbrev pub in_order : Row → List ℕ
in_order w = w.given ∷ w.declined ∷ w.handed_back ∷ w.«open» ∷ w.units ∷ []

-- a row in its columns, behind the three of the role name
unfoldable pub row_text : Row → List ℕ
row_text w = columns (in_order w)

-- each figure is at most n times the most that a tally can bring
pub record Few (n : ℕ) (w : Row) : Type 0 where
  pub given : w.given ≤ 16776960 * n
  pub declined : w.declined ≤ 16776960 * n
  pub handed_back : w.handed_back ≤ 16776960 * n
  pub opened : w.«open» ≤ 16776960 * n
  pub units : w.units ≤ 16776960 * n
