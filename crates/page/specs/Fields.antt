-- The six fields of a line.
use Rattle.std.specs.Prelude.{ℕ, ◌+◌, ◌*◌, Bool, false, cond, List, [], ◌∷◌, take, drop, Some, None, Ok, Err, Option, Result, ◌==◌, slice_index}
use Rattle.credential.specs.declared.letters.Mark.{Mark}
use Rattle.credential.specs.declared.letters.Mark.TheVariants.{Entity as E, RoleName as N, Blank as O}
use Rattle.credential.specs.declared.letters.Misfit.{Misfit}
use Rattle.credential.specs.Refusals.{Named, refused_at}
use Rattle.credential.specs.Letters.{tested, placed_at}
use Rattle.page.specs.Numerals.{numeral, number_in}

-- three blanks
abbrev pub blank : List ℕ → Bool
blank bs = cond (slice_index bs 0 == 32) (cond (slice_index bs 1 == 32) (slice_index bs 2 == 32) false) false

-- the three bytes of field k, from 0, of a line
abbrev pub field_at : List ℕ → ℕ → List ℕ
field_at text k = take 3 (drop (3 * k + 1) text)

-- the value if it fits, else the refusal that names the field
abbrev pub if_fits : Option ℕ → ℕ → ℕ → Result (Unit {0}) Misfit → Result (Option ℕ) Named
if_fits v line column (Ok u) = Ok v
if_fits v line column (Err e) = Err (placed_at line column e)

abbrev pub fit_at : Mark → Option ℕ → ℕ → ℕ → Result (Option ℕ) Named
fit_at m v line column = if_fits v line column (tested m v)

-- a number of lawful form goes on to its mark
abbrev pub read_at : Mark → Option ℕ → ℕ → ℕ → Result (Option ℕ) Named
read_at m None line column = Err (refused_at 4 line column)
read_at m (Some n) line column = fit_at m (Some n) line column

-- what stands in a field under a mark, or the refusal: nothing in three blanks, in all else a number
abbrev pub value_of : Mark → List ℕ → ℕ → ℕ → Result (Option ℕ) Named
value_of m bs line column = cond (blank bs) (fit_at m None line column) (read_at m (number_in bs) line column)

-- a field as it is written: what is not the number of a number's mark is blank
abbrev pub number_text : Option ℕ → List ℕ
number_text (Some n) = numeral 3 n
number_text None = 32 ∷ 32 ∷ 32 ∷ []

abbrev pub field_text : Mark → Option ℕ → List ℕ
field_text E v = number_text v
field_text N v = number_text v
field_text O v = 32 ∷ 32 ∷ 32 ∷ []
