-- The verdicts that a vault keeps, while a certificate stands.
use Rattle.std.specs.Prelude.{ℕ, List, vec_items}
use Rattle.std.proofs.Math.Option.{Option, none, some}
use Rattle.vault.specs.declared.vaults.kept.Kept.{Kept}
use Rattle.vault.specs.Verdicts.{kept_if}

abbrev pub kept_by : Kept → Option (List ℕ)
kept_by k = kept_if k.stands (vec_items k.verdicts)

-- no certificate stands
abbrev pub nothing : Option (List ℕ)
nothing = none

-- one with these verdicts stands
abbrev pub keeping : List ℕ → Option (List ℕ)
keeping vs = some vs
