-- Publishing the credentials of a source one after the other.
use Rattle.std.proofs.Common.{◌≡◌, ℕ, List, [], ◌∷◌, Result, sym, ap, ◌∙◌}
use Rattle.credential.specs.declared.credentials.Credential.{Credential}
use Rattle.credential.specs.Refusals.{Named}
use Rattle.register.specs.declared.tallies.Tally.{Tally}
use Rattle.register.specs.Registers.{published}
use Rattle.register.specs.Tallies.{counted, published_all}

-- one credential more is published
pub published_here : (limit : ℕ) (t : Tally) (ys : List Credential) (r : Result (Unit {0}) Named) (zs rest left : List Credential) (x : Credential)
    → left ≡ x ∷ rest → r ≡ (published limit ys x).answer → zs ≡ (published limit ys x).list
    → published_all limit t ys left ≡ published_all limit (counted t r) zs rest
unfolding published_all
published_here limit t ys r zs rest left x e a l =
    ap (λ (cs : List Credential). published_all limit t ys cs) e
    ∙ ap (λ (r : Result (Unit {0}) Named). published_all limit (counted t r) (published limit ys x).list rest) (sym a)
    ∙ ap (λ (zs : List Credential). published_all limit (counted t r) zs rest) (sym l)

pub published_past : (limit : ℕ) (t : Tally) (ys left : List Credential) → left ≡ [] → published_all limit t ys left ≡ record { tally = t; list = ys }
unfolding published_all
published_past limit t ys left e = ap (λ (cs : List Credential). published_all limit t ys cs) e
