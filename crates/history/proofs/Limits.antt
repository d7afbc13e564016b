-- The limits are never passed.
use Rattle.std.proofs.Common.{ℕ, ◌-◌, ◌≤◌, Bool, true, false, cond, List, [], ◌∷◌, ◌++◌, length, take, drop, arith}
use Rattle.std.proofs.lemmas.List.{length-append, length-take, length-drop, length_push}
use Rattle.credential.specs.declared.credentials.Credential.{Credential}
use Rattle.history.specs.Events.{published, withdrawn, certified, adopted, offered, drawn, declined, handed_back, refused}
use Rattle.history.specs.Words.{standing, ended}
use Rattle.history.specs.Theorems.{LimitsKept}
use Rattle.history.proofs.Leases.{ends_one, declined_ends, handed_back_ends}

shorter : (xs : List Credential) (p : ℕ) → 1 ≤ p → p ≤ length xs → length (take (p - 1) xs ++ drop p xs) ≤ length xs
shorter xs p l u = omega (arith, length-append (take (p - 1) xs) (drop p xs), length-take (p - 1) xs, length-drop p xs)

one_most : (b : Bool) → cond b 0 1 ≤ 1
one_most true = omega arith
one_most false = omega arith

pub limits_kept : LimitsKept
limits_kept k [] c = (k.fits, omega arith, omega arith)
limits_kept k (published x ∷ h) c = let i = limits_kept k h c.0 in (omega (arith, length_push (standing k h) x, c.2.1), i.1, i.2)
limits_kept k (withdrawn p ∷ h) c = let i = limits_kept k h c.0 in (omega (arith, shorter (standing k h) p c.2.0 c.2.1, i.0), i.1, i.2)
limits_kept k (certified b t n ∷ h) c = limits_kept k h c.0
limits_kept k (adopted t ∷ h) c = limits_kept k h c.0
limits_kept k (refused x e ∷ h) c = limits_kept k h c.0
limits_kept k (drawn s l ∷ h) c = limits_kept k h c.0
limits_kept k (offered m s ∷ h) c =
    let i = limits_kept k h c.0 in (i.0, omega (arith, one_most (ended h s.serial), c.2.1), omega (arith, c.2.2))
limits_kept k (declined s ∷ h) c =
    let i = limits_kept k h c.0 in
    (i.0, omega (arith, ends_one h s.serial c.2.1.0.1 (λ _. 1) (ended (declined s ∷ h)) (declined_ends h s), i.1), i.2)
limits_kept k (handed_back s ∷ h) c =
    let i = limits_kept k h c.0 in
    (i.0, omega (arith, ends_one h s.serial c.2.1.0.1 (λ _. 1) (ended (handed_back s ∷ h)) (handed_back_ends h s), i.1), i.2)
