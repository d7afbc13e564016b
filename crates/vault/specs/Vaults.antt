-- What a vault holds, and what each of its calls is in a history.
use Rattle.std.specs.Prelude.{◌≡◌, ℕ, List, [], Ok, Err, Result}
use Rattle.credential.specs.declared.credentials.Credential.{Credential}
use Rattle.credential.specs.declared.memberships.Membership.{Membership}
use Rattle.credential.specs.Refusals.{Named, named}
use Rattle.model.specs.Tables.{Table}
use Rattle.history.specs.Events as events
use Rattle.history.specs.Events.{Kind, Making, Call, Event, publish, withdraw, certify, adopt, offer, draw, decline, hand_back, published, withdrawn, certified, adopted, offered, drawn, declined, handed_back, refused, asked}
use Rattle.history.specs.Law.{Due}
use Rattle.history.specs.Contents.{Contents, Keeps}
use Rattle.history.specs.Steps.{After, seen, Stepped}
use Rattle.vault.specs.declared.slips.Returned.{Returned}
use Rattle.vault.specs.declared.slips.Slip.{Slip}
use Rattle.vault.specs.Slips.{slip_of}

-- it was made so, and nothing has happened since
abbrev pub Made : Kind → ℕ → ℕ → List Credential → Contents → Type 0
Made kind number limit list v =
    (k : Making) × (k.kind ≡ kind) × (k.vault ≡ number) × (k.capacity ≡ limit) × (k.list ≡ list) × Keeps k [] v

-- an event that was due by what the vault held, that left it so, and that is one more of every history that it kept
pub record Happened (v : Contents) (e : Event) (w : Contents) : Type 0 where
  pub due : Due (seen v) e
  pub after : After v e w
  pub kept : Stepped v e w

-- the event of a call with its answer
abbrev pub answer_event : Call → Event → Result (Unit {0}) Named → Event
answer_event c taken (Ok u) = taken
answer_event c taken (Err e) = refused c e

abbrev pub publish_event : Credential → Result (Unit {0}) Named → Event
publish_event c r = answer_event (publish c) (published c) r

abbrev pub withdraw_event : ℕ → Result (Unit {0}) Named → Event
withdraw_event p r = answer_event (withdraw p) (withdrawn p) r

abbrev pub certify_event : Table → Result ℕ Named → Table → Event
certify_event b (Ok n) t = certified b t n
certify_event b (Err e) t = refused (certify b) e

abbrev pub adopt_event : Table → Result (Unit {0}) Named → Event
adopt_event t r = answer_event (adopt t) (adopted t) r

abbrev pub offer_event : {S : Type 0} → Membership → Result (Slip S) Named → Event
offer_event m (Ok s) = offered m (slip_of s)
offer_event m (Err e) = refused (asked m) e

-- an offer by plain numbers: of the membership that they tell, or refused as they are
abbrev pub OfferedByNumbers : {S : Type 0} → ℕ → ℕ → ℕ → Result Membership Named → Contents → Result (Slip S) Named → Contents → Type 0
OfferedByNumbers a r d (Ok m) v q w = Happened v (offer_event m q) w
OfferedByNumbers a r d (Err e) v q w = (q ≡ Err e) × Happened v (refused (offer a r d) e) w

abbrev pub draw_event : events.Slip → Result (Unit {0}) Named → Event
draw_event s r = answer_event (draw s) (drawn s s) r

abbrev pub decline_event : events.Slip → Result (Unit {0}) Named → Event
decline_event s r = answer_event (decline s) (declined s) r

abbrev pub hand_back_event : events.Slip → Result (Unit {0}) Named → Event
hand_back_event s r = answer_event (hand_back s) (handed_back s) r

-- what was answered to the bringer of a slip: something given or nothing, or why it was refused
abbrev pub spent : {T S : Type 0} → Result T (Returned S) → Result (Unit {0}) Named
spent (Ok x) = Ok tt
spent (Err b) = Err (named b.why)

-- the lease slip that is given has the numbers of the offer slip
abbrev pub GivenOn : {S T : Type 0} → events.Slip → Result (Slip T) (Returned (Slip S)) → Type 0
GivenOn s (Ok l) = slip_of l ≡ s
GivenOn s (Err b) = Unit {0}

-- a refused slip goes back to its holder
abbrev pub Back : {T S : Type 0} → S → Result T (Returned S) → Type 0
Back s (Ok x) = Unit {0}
Back s (Err b) = b.slip ≡ s
