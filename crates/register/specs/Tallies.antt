-- Publishing one list into another, and counting the answers.
use Rattle.std.specs.Prelude.{ℕ, ◌+◌, cond, List, [], ◌∷◌, Ok, Err, Result, ◌==◌}
use Rattle.credential.specs.declared.credentials.Credential.{Credential}
use Rattle.credential.specs.Refusals.{Named, number_in}
use Rattle.register.specs.declared.tallies.Tally.{Tally}
use Rattle.register.specs.Registers.{published}

abbrev pub none : Tally
none = record { taken = 0; standing = 0; full = 0 }

-- how many answers it counts
abbrev pub total : Tally → ℕ
total t = t.taken + t.standing + t.full

-- a tally with one answer more
abbrev pub counted : Tally → Result (Unit {0}) Named → Tally
counted t (Ok u) = record { taken = t.taken + 1; standing = t.standing; full = t.full }
counted t (Err e) = cond (number_in e == 6)
    (record { taken = t.taken; standing = t.standing + 1; full = t.full })
    (record { taken = t.taken; standing = t.standing; full = t.full + 1 })

-- the tally and the list after publishing each of cs in order into a register with the list xs
pub record Outcomes : Type 0 where
  pub tally : Tally
  pub list : List Credential

unfoldable pub published_all : ℕ → Tally → List Credential → List Credential → Outcomes
published_all limit t xs [] = record { tally = t; list = xs }
published_all limit t xs (c ∷ cs) = published_all limit (counted t (published limit xs c).answer) (published limit xs c).list cs
