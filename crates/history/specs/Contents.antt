-- What a vault holds, and how that agrees with what happened.
use Rattle.std.specs.Prelude.{◌≡◌, ℕ, suc, ◌-◌, Bool, true, false, List, [], length, replicate, slice_index, slice_set}
use Rattle.std.proofs.Math.Option.{Option, none, some}
use Rattle.credential.specs.declared.credentials.Credential.{Credential}
use Rattle.credential.specs.Numbers.{RoleName}
use Rattle.model.specs.Tables.{Table}
use Rattle.history.specs.Events.{Kind, Making, History}
use Rattle.history.specs.Words.{total, standing, certificate, Lease, open_by, offers_given, for, given, declined_of, handed_back_of}
use Rattle.history.specs.Law.{Conforms}

-- a record of the book: free, or with a lease that is offered or held
pub data Entry : Type 0 where
  is_free : Entry
  is_offered : Lease → Entry
  is_held : Lease → Entry

-- the record of an open lease, held or not
abbrev pub record_of : Bool → Lease → Entry
record_of true l = is_held l
record_of false l = is_offered l

-- offers given in all; by role name, offers given, offers declined, leases handed back
pub record Figures : Type 0 where
  pub total : ℕ
  pub givens : List ℕ
  pub declineds : List ℕ
  pub handed_backs : List ℕ

-- the register's list, the verdicts kept while a certificate stands, the figures and the book
pub record Contents : Type 0 where
  pub kind : Kind
  pub number : ℕ
  pub capacity : ℕ
  pub list : List Credential
  pub kept : Option (List ℕ)
  pub figures : Figures
  pub book : List Entry

-- the weight of a record: a free one has none
abbrev pub opened : (Lease → Bool → ℕ) → Entry → ℕ
opened w is_free = 0
opened w (is_offered l) = w l false
opened w (is_held l) = w l true

-- the sum of a weight over the open records
abbrev pub in_book : (Lease → Bool → ℕ) → List Entry → ℕ
in_book w es = total (opened w) es

-- the figure of a role name, by its number
abbrev pub figure : List ℕ → ℕ → ℕ
figure xs r = slice_index xs (r - 1)

-- the figures with one more for a role name
abbrev pub one_more : RoleName → List ℕ → List ℕ
one_more r xs = slice_set xs (r.number - 1) (suc (figure xs r.number))

-- sixteen figures, and these
abbrev pub Tells : List ℕ → (ℕ → ℕ) → Type 0
Tells xs f = (length xs ≡ 16) × ((r : RoleName) → figure xs r.number ≡ f r.number)

-- the figures are those of the calls
abbrev pub Figured : History → Figures → Type 0
Figured h f =
    (f.total ≡ offers_given h)
    × Tells f.givens (λ r. given (for r) h)
    × Tells f.declineds (λ r. declined_of (for r) h)
    × Tells f.handed_backs (λ r. handed_back_of (for r) h)

-- one open record for each open lease, in its state, and no other: whatever is summed over the ones is summed over the others
abbrev pub Booked : History → List Entry → Type 0
Booked h es = (length es ≡ 256) × ((w : Lease → Bool → ℕ) → in_book w es ≡ open_by w h)

-- what is kept of a certificate
abbrev pub verdicts_of : Option Table → Option (List ℕ)
verdicts_of none = none
verdicts_of (some t) = some t.verdicts

-- the contents agree with the history
pub record Keeps (k : Making) (h : History) (v : Contents) : Type 0 where
  pub conforms : Conforms k h
  pub made : (v.kind ≡ k.kind) × (v.number ≡ k.vault) × (v.capacity ≡ k.capacity)
  pub list : v.list ≡ standing k h
  pub kept : v.kept ≡ verdicts_of (certificate h)
  pub figures : Figured h v.figures
  pub book : Booked h v.book

-- no figures yet
abbrev pub no_figures : Figures
no_figures = record { total = 0; givens = replicate 16 0; declineds = replicate 16 0; handed_backs = replicate 16 0 }

-- what a vault holds when it is made
abbrev pub made : Making → Contents
made k = record { kind = k.kind; number = k.vault; capacity = k.capacity; list = k.list; kept = none; figures = no_figures; book = replicate 256 is_free }

-- the contents at the making agree with the empty history
abbrev pub MakingKeeps : Type 0
MakingKeeps = (k : Making) → Keeps k [] (made k)
