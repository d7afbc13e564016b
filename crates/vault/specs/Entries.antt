-- A record as an entry of the book, and what a call does to it.
use Rattle.std.specs.Prelude.{◌≡◌, ℕ, Bool, false, not, List, is_some, Some, None, Option, ◌==◌, slice_set}
use Rattle.history.specs.Words as words
use Rattle.history.specs.Contents.{Entry, is_free, is_offered, is_held}
use Rattle.history.specs.Steps.{RecordOf}
use Rattle.vault.specs.declared.book.Lease.{Lease}
use Rattle.vault.specs.declared.book.Record.{Record}
use Rattle.vault.specs.declared.book.Record.TheVariants.{Free, Offered, Held}
use Rattle.vault.specs.declared.book.State.{State}
use Rattle.vault.specs.declared.book.State.TheVariants as s
use Rattle.vault.specs.declared.book.Turn.{Turn}
use Rattle.vault.specs.declared.book.Turn.TheVariants.{Offer, Draw, Decline, HandBack}

-- a lease and a record, as the history has them
abbrev pub lease : Lease → words.Lease
lease l = record { serial = l.serial; membership = l.membership }

abbrev pub entry : Record → Entry
entry Free = is_free
entry (Offered l) = is_offered (lease l)
entry (Held l) = is_held (lease l)

-- state and call together decide: what a call makes of an entry, if the two go together
abbrev pub after : Entry → Turn → Option Entry
after is_free (Offer l) = Some (is_offered (lease l))
after is_free Draw = None
after is_free Decline = None
after is_free HandBack = None
after (is_offered x) (Offer l) = None
after (is_offered x) Draw = Some (is_held x)
after (is_offered x) Decline = Some is_free
after (is_offered x) HandBack = None
after (is_held x) (Offer l) = None
after (is_held x) Draw = None
after (is_held x) Decline = None
after (is_held x) HandBack = Some is_free

abbrev pub goes : Entry → Turn → Bool
goes e t = is_some (after e t)

-- the entry after a call: one that does not go with it is left
abbrev pub or_left : Entry → Option Entry → Entry
or_left e None = e
or_left e (Some f) = f

abbrev pub turned : Entry → Turn → Entry
turned e t = or_left e (after e t)

-- the entry of an open lease in a state
abbrev pub in_state : State → words.Lease → Entry
in_state s.Offered x = is_offered x
in_state s.Held x = is_held x

-- the entry has the lease with a serial in a state
abbrev pub is_of : ℕ → State → Entry → Bool
is_of n t is_free = false
is_of n s.Offered (is_offered x) = x.serial == n
is_of n s.Held (is_offered x) = false
is_of n s.Offered (is_held x) = false
is_of n s.Held (is_held x) = x.serial == n

-- the lease that was read, if any
abbrev pub read : Option Lease → Option words.Lease
read None = None
read (Some x) = Some (lease x)

-- the open lease of an entry: open is not free
abbrev pub open_lease : Entry → Option words.Lease
open_lease is_free = None
open_lease (is_offered x) = Some x
open_lease (is_held x) = Some x

abbrev pub is_spare : Entry → Bool
is_spare e = not (is_some (open_lease e))

-- a lease of the role name with this number
abbrev pub is_for : ℕ → Option words.Lease → Bool
is_for r None = false
is_for r (Some x) = x.membership.role.name.number == r

-- a call on the lease with a serial in a state turns its record alone, if there is one
abbrev pub Settled : List Entry → ℕ → State → Turn → Option Lease → List Entry → Type 0
Settled es n t call None fs = ((i : ℕ) (x : words.Lease) → RecordOf (in_state t) es n i x → ⊥) × (fs ≡ es)
Settled es n t call (Some l) fs =
    (i : ℕ) × RecordOf (in_state t) es n i (lease l) × (fs ≡ slice_set es i (turned (in_state t (lease l)) call))
