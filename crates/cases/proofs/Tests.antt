-- Tests that compute, and the statements that they decide.
use Rattle.std.proofs.Common.{◌≡◌, ℕ, ◌≤◌, Bool, true, false, not, T, eqb, leb, ◌⊎◌, List, [], ◌∷◌, subst, inl, inr, le→leb, eqb→eq, leb→le}
use mathlib.Core.Option.{Option, none, some}
use lib.Dec.{eqb_refl}
use Rattle.credential.specs.declared.memberships.Membership.{Membership}
use Rattle.model.specs.Clauses.{Every, AnyOf, IfNegated, HasNegated}

abbrev pub Settles : Bool → Type 0 → Type 0
Settles b P = (T b → P) × (P → T b)

-- `and` and `or` compute their second argument only where the first asks for it
abbrev pub and : Bool → Bool → Bool
and a b = elim a [ true ↦ b | false ↦ false ]

abbrev pub or : Bool → Bool → Bool
or a b = elim a [ true ↦ true | false ↦ b ]

pub and_decides : (a b : Bool) {A B : Type 0} → Settles a A → Settles b B → Settles (elim a [ true ↦ b | false ↦ false ]) (A × B)
and_decides true b x y = (λ t. (x.0 tt, y.0 t), λ h. y.1 h.1)
and_decides false b x y = (λ t. absurd t, λ h. x.1 h.0)

pub or_decides : (a b : Bool) {A B : Type 0} → Settles a A → Settles b B → Settles (elim a [ true ↦ true | false ↦ b ]) (A ⊎ B)
or_decides true b x y = (λ t. inl (x.0 tt), λ h. tt)
or_decides false b {A} {B} x y = (λ t. inr (y.0 t), go)
  where
    go : A ⊎ B → T b
    go (inl h) = absurd (x.1 h)
    go (inr h) = y.1 h

pub implies_decides : (a b : Bool) {A B : Type 0} → Settles a A → Settles b B → Settles (elim a [ true ↦ b | false ↦ true ]) (A → B)
implies_decides true b x y = (λ t h. y.0 t, λ f. y.1 (f (x.0 tt)))
implies_decides false b x y = (λ t h. absurd (x.1 h), λ f. tt)

pub not_decides : (a : Bool) {A : Type 0} → Settles a A → Settles (not a) (¬ A)
not_decides true x = (λ t. absurd t, λ n. n (x.0 tt))
not_decides false x = (λ t h. x.1 h, λ n. tt)

pub eq_decides : (m n : ℕ) → Settles (eqb m n) (m ≡ n)
eq_decides m n = (eqb→eq m n, λ e. subst (λ k. T (eqb m k)) e (eqb_refl m))

pub le_decides : (m n : ℕ) → Settles (leb m n) (m ≤ n)
le_decides m n = (leb→le m n, le→leb m n)

pub by_iff : (a : Bool) {A B : Type 0} → Settles a A → (A → B) → (B → A) → Settles a B
by_iff a x f g = (λ t. f (x.0 t), λ b. x.1 (g b))

module _ (f : Membership → Bool) where
  abbrev pub every : List Membership → Bool
  every [] = true
  every (m ∷ ms) = let r = every ms in elim (f m) [ true ↦ r | false ↦ false ]

  abbrev pub some' : List Membership → Bool
  some' [] = false
  some' (m ∷ ms) = let r = some' ms in elim (f m) [ true ↦ true | false ↦ r ]

  abbrev pub if_negated : Option Membership → Bool
  if_negated none = true
  if_negated (some m) = f m

  abbrev pub has_negated : Option Membership → Bool
  has_negated none = false
  has_negated (some m) = f m

  module _ {P : Membership → Type 0} (d : (m : Membership) → Settles (f m) (P m)) where
    pub every_decides : (ms : List Membership) → Settles (every ms) (Every P ms)
    every_decides [] = (λ _. tt, λ _. tt)
    every_decides (m ∷ ms) = and_decides (f m) (every ms) (d m) (every_decides ms)

    pub some_decides : (ms : List Membership) → Settles (some' ms) (AnyOf P ms)
    some_decides [] = (λ t. t, λ t. t)
    some_decides (m ∷ ms) = or_decides (f m) (some' ms) (d m) (some_decides ms)

    pub if_decides : (o : Option Membership) → Settles (if_negated o) (IfNegated P o)
    if_decides none = (λ _. tt, λ _. tt)
    if_decides (some m) = d m

    pub has_decides : (o : Option Membership) → Settles (has_negated o) (HasNegated P o)
    has_decides none = (λ t. t, λ t. t)
    has_decides (some m) = d m
