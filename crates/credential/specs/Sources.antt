-- What a source answers, by its list.
use Rattle.std.specs.Prelude.{ℕ, ◌-◌, cond, List, None, Option, ◌==◌}
use Rattle.std.specs.List.{slice_get}

-- what stands at a place from 1; absent outside 1 to the count
abbrev pub placed : {X : Type 0} → List X → ℕ → Option X
placed xs p = cond (p == 0) None (slice_get xs (p - 1))
