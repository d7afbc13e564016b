-- What a call on a slip makes of a vault.
use Rattle.std.specs.Prelude.{◌≡◌, ◌≢◌, ◌⊎◌, Ok, Err, Result}
use Rattle.credential.specs.declared.refusals.Refusal.{Refusal}
use Rattle.credential.specs.Refusals.{named, refused}
use Rattle.history.specs.Contents.{Contents}
use Rattle.history.specs.Steps.{rebooked}
use Rattle.vault.specs.declared.ledger.Ledger.{Ledger}
use Rattle.vault.specs.declared.slips.Slip.{Slip}
use Rattle.vault.specs.declared.slips.Returned.{Returned}
use Rattle.vault.specs.Ledgers.{Posted, posted}

-- the ledger's part of the contents, and the contents with another ledger
abbrev pub ledger_of : Contents → Posted
ledger_of v = record { figures = v.figures; book = v.book }

abbrev pub posting : Posted → Contents → Contents
posting q v = rebooked q.figures q.book v

-- a call on the ledger answered so, and changed it alone
pub record Calls (Call : Ledger → Result (Unit {0}) Refusal → Ledger → Type 0) (v : Contents) (r : Result (Unit {0}) Refusal) (w : Contents) : Type 0 where
  pub old : Ledger
  pub new : Ledger
  pub is_old : posted old ≡ ledger_of v
  pub called : Call old r new
  pub becomes : w ≡ posting (posted new) v

-- the call is made if the slip is the vault's, and 21 is the answer if not; the slip comes back
abbrev pub Settles : {S : Type 0} → (Ledger → Result (Unit {0}) Refusal → Ledger → Type 0) → Slip S → Contents → Result (Slip S) (Returned (Slip S)) → Contents → Type 0
Settles Call s v (Ok t) w = (t ≡ s) × (s.vault ≡ v.number) × Calls Call v (Ok tt) w
Settles Call s v (Err b) w =
    (b.slip ≡ s)
    × (((s.vault ≡ v.number) × Calls Call v (Err b.why) w) ⊎ ((s.vault ≢ v.number) × (named b.why ≡ refused 21) × (w ≡ v)))
