-- The balance of a ledger's figures with its book.
use Rattle.std.specs.Prelude.{◌≡◌, ℕ, ◌+◌, ◌≤◌, List, map, length}
use Rattle.credential.specs.Numbers.{RoleName}
use Rattle.history.specs.Words.{for}
use Rattle.history.specs.Contents as contents
use Rattle.history.specs.Contents.{Entry, figure, in_book}
use Rattle.vault.specs.declared.ledger.Figures.{Figures}

-- the offers given in all and the figures of the role names, as the history has them
abbrev pub in_lists : ℕ → List Figures → contents.Figures
in_lists n fs =
    record {
      total = n;
      givens = map (λ (f : Figures). f.given) fs;
      declineds = map (λ (f : Figures). f.declined) fs;
      handed_backs = map (λ (f : Figures). f.handed_back) fs;
    }

-- for a role name, no more was given than in all, and what was given was declined, handed back or is open
abbrev pub Even : contents.Figures → List Entry → RoleName → Type 0
Even f es r =
    (figure f.givens r.number ≤ f.total)
    × (figure f.givens r.number ≡ figure f.declineds r.number + figure f.handed_backs r.number + in_book (λ l b. for r.number l) es)

-- sixteen figures each, even for every role name
abbrev pub Balanced : contents.Figures → List Entry → Type 0
Balanced f es =
    (length f.givens ≡ 16) × (length f.declineds ≡ 16) × (length f.handed_backs ≡ 16) × ((r : RoleName) → Even f es r)
