-- What a ledger holds, and what each call makes of it.
use Rattle.std.specs.Prelude.{◌≡◌, ℕ, suc, ◌+◌, ◌<◌, ◌⊎◌, List, length, Ok, Err, Result, slice_index_or, slice_set}
use Rattle.credential.specs.Refusals.{Named, refused}
use Rattle.credential.specs.declared.memberships.Membership.{Membership}
use Rattle.history.specs.Words.{Lease, for}
use Rattle.history.specs.Contents.{Entry, is_free, is_offered, is_held, Figures, figure, in_book}
use Rattle.history.specs.Steps.{FirstFree, RecordOf, one_given, one_declined, one_handed_back}
use Rattle.vault.specs.declared.statement.Tally.{Tally}
use Rattle.vault.specs.declared.book.State.{State}
use Rattle.vault.specs.declared.ledger.Ledger.{Ledger}
use Rattle.vault.specs.Balance.{in_lists}
use Rattle.vault.specs.Books.{entries}
use Rattle.vault.specs.Entries.{in_state}

-- the figures and the book
pub record Posted : Type 0 where
  pub figures : Figures
  pub book : List Entry

abbrev pub posted : Ledger → Posted
posted l =
    record {
      figures = in_lists l.given l.figures;
      book = entries l.book;
    }

-- how many leases are open
abbrev pub opens : Posted → ℕ
opens p = in_book (λ l b. 1) p.book

-- a record has the lease with this serial in this state
abbrev pub Recorded : State → Posted → ℕ → Type 0
Recorded t p n = (i : ℕ) × (l : Lease) × RecordOf (in_state t) p.book n i l

-- an offer takes the first free record and the next serial; 19 if none is free, then 20 if all were given
abbrev pub Lent : Posted → Membership → Result ℕ Named → Posted → Type 0
Lent p m (Ok n) q =
    (opens p < 256)
    × (p.figures.total < 999999)
    × (n ≡ suc p.figures.total)
    × ((i : ℕ)
    × FirstFree p.book i
    × (q ≡ record { figures = one_given m.role.name p.figures; book = slice_set p.book i (is_offered (record { serial = n; membership = m })) }))
Lent p m (Err e) q =
    (q ≡ p)
    × (((e ≡ refused 19) × (opens p ≡ 256)) ⊎ ((e ≡ refused 20) × (opens p < 256) × (p.figures.total ≡ 999999)))

-- a call on the lease with a serial changes its record alone; 21 if no record has it in the state that the call needs
abbrev pub Turned : (Lease → Entry) → (ℕ → Lease → Posted → Posted) → Posted → ℕ → Result (Unit {0}) Named → Posted → Type 0
Turned state change p n (Ok u) q = (i : ℕ) × (x : Lease) × RecordOf state p.book n i x × (q ≡ change i x p)
Turned state change p n (Err e) q = (e ≡ refused 21) × ((i : ℕ) (x : Lease) → RecordOf state p.book n i x → ⊥) × (q ≡ p)

-- a draw, a decline and a hand back of the lease in a record
abbrev pub drawn_at : ℕ → Lease → Posted → Posted
drawn_at i x p = record { figures = p.figures; book = slice_set p.book i (is_held x) }

abbrev pub declined_at : ℕ → Lease → Posted → Posted
declined_at i x p = record { figures = one_declined x.membership.role.name p.figures; book = slice_set p.book i is_free }

abbrev pub handed_back_at : ℕ → Lease → Posted → Posted
handed_back_at i x p = record { figures = one_handed_back x.membership.role.name p.figures; book = slice_set p.book i is_free }

-- the tally of a role name, by its number
abbrev pub Tallied : Posted → ℕ → Tally → Type 0
Tallied p r t =
    (t.given ≡ figure p.figures.givens r)
    × (t.declined ≡ figure p.figures.declineds r)
    × (t.handed_back ≡ figure p.figures.handed_backs r)
    × (t.«open» ≡ in_book (λ l b. for r l) p.book)

-- the tallies of the sixteen role names
abbrev pub AllTallied : Posted → List Tally → Type 0
AllTallied p ts = (length ts ≡ 16) × ((i : ℕ) (d : Tally) → i < 16 → Tallied p (i + 1) (slice_index_or ts i d))
