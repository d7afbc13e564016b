-- Credentials are equal where `==` says so, and standing decides membership.
use Rattle.std.proofs.Common.{◌≡◌, ◌≢◌, ℕ, ◌<◌, Bool, true, false, List, length, Decides, refl, zero-le}
use Rattle.std.specs.Bool.{MatchBool}
use Rattle.std.specs.List.{ContainsAt as Has, HoldsAt, AllWithin}
use Rattle.std.proofs.lemmas.Bool.Decides.{Decides-by_or}
use Rattle.credential.specs.declared.credentials.Credential.{Credential}
use Rattle.credential.proofs.Equalities.{credential_eq}
use Rattle.register.specs.Standing.{same, stands}

pub same_decides : (c d : Credential) → Decides (same c d) (c ≡ d)
same_decides c d = credential_eq c d

pub stands_decides : (xs : List Credential) (c : Credential) → Decides (stands xs c) (Has xs c)
stands_decides xs c = Decides-by_or (λ x. same x c) (λ x. x ≡ c) (λ ys. stands ys c) (λ x. same_decides x c) refl (λ _ _. refl) xs

-- what a search for a credential found
pub found_decides : (r : Bool) (xs : List Credential) (c : Credential) → MatchBool r ((k : ℕ) × (k < length xs) × HoldsAt (λ x. x ≡ c) xs k) (AllWithin (λ x. x ≢ c) xs 0 (length xs)) → Decides r (Has xs c)
found_decides true xs c h = (λ _. h, λ _. refl)
found_decides false xs c h = (λ q. cc, λ k. absurd (h k.0 c zero-le k.1 (k.2 c)))
