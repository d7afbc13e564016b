-- What a register answers to a list of calls, and what it holds after them.
use Rattle.std.specs.Prelude.{ℕ, List, [], ◌∷◌, ◌++◌, Result}
use Rattle.credential.specs.declared.credentials.Credential.{Credential}
use Rattle.credential.specs.Refusals.{Named}
use Rattle.register.specs.Registers.{Outcome, published, withdrawn}
use Rattle.register_tests.specs.declared.Call.{Call}
use Rattle.register_tests.specs.declared.Call.TheVariants.{Publish, Withdraw}

abbrev pub called : ℕ → List Credential → Call → Outcome
called limit xs (Publish c) = published limit xs c
called limit xs (Withdraw p) = withdrawn xs p

-- the answers that a register has given, and its list
pub record Driven : Type 0 where
  pub answers : List (Result (Unit {0}) Named)
  pub list : List Credential

abbrev pub undriven : List Credential → Driven
undriven xs = record { answers = []; list = xs }

abbrev pub driven_by : ℕ → Driven → Call → Driven
driven_by limit d call = record {
  answers = d.answers ++ (called limit d.list call).answer ∷ [];
  list = (called limit d.list call).list;
}

-- what is there after a list of calls
unfoldable pub driven : ℕ → Driven → List Call → Driven
driven limit d [] = d
driven limit d (call ∷ calls) = driven limit (driven_by limit d call) calls
