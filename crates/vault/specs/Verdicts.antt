-- The verdicts that a vault keeps.
use Rattle.std.specs.Prelude.{◌≡◌, ℕ, Bool, true, cond, ◌||◌, List, Ok, Err, Result, ◌==◌, slice_index}
use Rattle.std.proofs.Math.Option.{Option, none, some}
use Rattle.credential.specs.declared.memberships.Membership.{Membership}
use Rattle.credential.specs.Memberships.{place}
use Rattle.credential.specs.Refusals.{Named, refused}

-- one of T, F and U
abbrev pub is_verdict : ℕ → Bool
is_verdict v = v == 84 || (v == 70 || v == 85)

-- the verdicts kept, while a certificate stands
abbrev pub kept_if : Bool → List ℕ → Option (List ℕ)
kept_if stands vs = cond stands (some vs) none

-- while a certificate stands, every entry has a verdict
abbrev pub LawfulWhile : Bool → List ℕ → Type 0
LawfulWhile stands vs = stands ≡ true → (m : Membership) → is_verdict (slice_index vs (place m)) ≡ true

-- an offer is refused 16 if none stands, then 17 if the membership is false, 18 if it is undefined
abbrev pub judged_by : (is_true is_false : Bool) → Result (Unit {0}) Named
judged_by t f = cond t (Ok tt) (cond f (Err (refused 17)) (Err (refused 18)))

abbrev pub judged : Membership → Option (List ℕ) → Result (Unit {0}) Named
judged m none = Err (refused 16)
judged m (some vs) = judged_by (slice_index vs (place m) == 84) (slice_index vs (place m) == 70)
