use Rattle.std.proofs.Common.{◌≡◌, ◌<◌, Ok}
use Rattle.credential.specs.Memberships.{place}
use Rattle.credential.specs.declared.memberships.Membership.{Membership}
use Rattle.checker.specs.Rules.{entry_refusal}
use Rattle.checker.proofs.tables.Tables.check_entries.Given as goal

abbrev pub invariant-loop-index : goal.invariant-loop-index
invariant-loop-index l = (k : Membership) → place k < l.index → entry_refusal l.credentials l.self.verdicts.now l.self.numbers.now k ≡ Ok tt
