-- When `==` tells two values apart.
use Rattle.std.specs.Prelude.{◌≡◌, Bool, Decides}

-- the test holds of two values exactly where they are the same
abbrev pub EqualityDecides : {X : Type 0} → (X → X → Bool) → Type 0
EqualityDecides {X} eq = (a b : X) → Decides (eq a b) (a ≡ b)
