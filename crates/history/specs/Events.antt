-- What a vault is made from, what it is asked, and what happened.
use Rattle.std.specs.Prelude.{◌≡◌, ℕ, ◌≤◌, List, length}
use Rattle.credential.specs.declared.credentials.Credential.{Credential}
use Rattle.credential.specs.declared.memberships.Membership.{Membership}
use Rattle.credential.specs.Refusals.{Named}
use Rattle.model.specs.Tables.{Table}

-- the first vault certifies, the second adopts
pub data Kind : Type 0 where
  certifying : Kind
  adopting : Kind

-- a vault's making: its number, and its register's capacity and list
pub record Making : Type 0 where
  pub kind : Kind
  pub vault : ℕ
  pub capacity : ℕ
  pub list : List Credential
  pub numbered : vault ≤ 65535
  pub some_room : 1 ≤ capacity
  pub most_room : capacity ≤ 192
  pub fits : length list ≤ capacity

-- an offer slip or a lease slip, by the numbers that it carries
pub record Slip : Type 0 where
  pub vault : ℕ
  pub serial : ℕ

-- a call with what it brings: certify brings the caller's tables as they are before it, and the numbers of an offer are plain
pub data Call : Type 0 where
  publish : Credential → Call
  withdraw : ℕ → Call
  certify : Table → Call
  adopt : Table → Call
  offer : ℕ → ℕ → ℕ → Call
  draw : Slip → Call
  decline : Slip → Call
  hand_back : Slip → Call

-- a call with its answer: taken, with what it gave, or refused
pub data Event : Type 0 where
  published : Credential → Event
  withdrawn : ℕ → Event
  -- the tables brought, the tables filled, the rounds
  certified : Table → Table → ℕ → Event
  adopted : Table → Event
  -- the membership, the offer slip given
  offered : Membership → Slip → Event
  -- the offer slip brought, the lease slip given
  drawn : Slip → Slip → Event
  declined : Slip → Event
  handed_back : Slip → Event
  refused : Call → Named → Event

-- what happened since the making, the latest first
abbrev pub History : Type 0
History = List Event

-- the offer of a membership
abbrev pub asked : Membership → Call
asked m = offer m.role.owner.number m.role.name.number m.member.number

-- the call that the event answers
abbrev pub call : Event → Call
call (published c) = publish c
call (withdrawn p) = withdraw p
call (certified b t n) = certify b
call (adopted t) = adopt t
call (offered m s) = asked m
call (drawn s l) = draw s
call (declined s) = decline s
call (handed_back s) = hand_back s
call (refused c e) = c

-- the call was taken
abbrev pub Taken : Event → Type 0
Taken (published c) = Unit {0}
Taken (withdrawn p) = Unit {0}
Taken (certified b t n) = Unit {0}
Taken (adopted t) = Unit {0}
Taken (offered m s) = Unit {0}
Taken (drawn s l) = Unit {0}
Taken (declined s) = Unit {0}
Taken (handed_back s) = Unit {0}
Taken (refused c e) = ⊥

-- which calls a kind of vault has
abbrev pub HasCall : Kind → Call → Type 0
HasCall k (publish c) = Unit {0}
HasCall k (withdraw p) = Unit {0}
HasCall k (certify b) = k ≡ certifying
HasCall k (adopt t) = k ≡ adopting
HasCall k (offer a r d) = Unit {0}
HasCall k (draw s) = Unit {0}
HasCall k (decline s) = Unit {0}
HasCall k (hand_back s) = Unit {0}
