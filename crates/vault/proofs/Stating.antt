-- The statement of the tallies is that of the ledger; and an offer by numbers that are out of range.
use Rattle.std.proofs.Common.{◌≡◌, ℕ, ◌+◌, ◌-◌, ◌<◌, List, map, length, get_or, Ok, Err, Result, sym, refl, ap, ◌∙◌, subst, arith}
use Rattle.std.proofs.lemmas.List.{get_or-map}
use Rattle.credential.specs.declared.memberships.Membership.{Membership}
use Rattle.credential.specs.Refusals.{Named}
use Rattle.history.specs.Words.{for}
use Rattle.history.specs.Events.{offer, refused}
use Rattle.history.specs.Law.{out_of_range}
use Rattle.history.specs.Theorems.{membership_of, Numbered}
use Rattle.history.specs.Contents.{Contents, figure, in_book}
use Rattle.history.specs.Statement.{statement}
use Rattle.history.proofs.Asked.{numbers_tell}
use Rattle.history.proofs.Stating.{Agree, stated-same}
use Rattle.vault.specs.declared.statement.Tally.{Tally}
use Rattle.vault.specs.Statements.{statement_of, givens, declineds, handed_backs, opens}
use Rattle.vault.specs.Ledgers.{AllTallied}
use Rattle.vault.specs.Vaults.{Happened, OfferedByNumbers}
use Rattle.vault.proofs.Happening.{happened}
use Rattle.vault.specs.Settling.{ledger_of}

no_tally : Tally
no_tally = record { given = 0; declined = 0; handed_back = 0; «open» = 0; given_few = omega arith; declined_few = omega arith; handed_back_few = omega arith; open_few = omega arith }

-- a figure of the tallies, by role name
agrees : (f : Tally → ℕ) (h : ℕ → ℕ) (ts : List Tally) → length ts ≡ 16 → ((i : ℕ) (d : Tally) → i < 16 → f (get_or ts i d) ≡ h (i + 1)) → Agree 16 (figure (map f ts)) h
agrees f h ts l e r low high =
    get_or-map f ts (r - 1) no_tally 0 (omega arith) ∙ e (r - 1) no_tally (omega arith) ∙ ap h (omega arith)

pub same-statement : (us : List ℕ) (v : Contents) (ts : List Tally) → AllTallied (ledger_of v) ts → statement_of us ts ≡ statement us v
unfolding statement_of
same-statement us v ts t =
    stated-same (figure us) (givens ts) (declineds ts) (handed_backs ts) (opens ts)
    (figure v.figures.givens) (figure v.figures.declineds) (figure v.figures.handed_backs) (λ r. in_book (λ l b. for r l) v.book)
    (agrees (λ (t : Tally). t.given) (figure v.figures.givens) ts t.0 (λ i d h. (t.1 i d h).0))
    (agrees (λ (t : Tally). t.declined) (figure v.figures.declineds) ts t.0 (λ i d h. (t.1 i d h).1))
    (agrees (λ (t : Tally). t.handed_back) (figure v.figures.handed_backs) ts t.0 (λ i d h. (t.1 i d h).2))
    (agrees (λ (t : Tally). t.«open») (λ r. in_book (λ l b. for r l) v.book) ts t.0 (λ i d h. (t.1 i d h).3))

pub numbers-refused : (S : Type 0) (v : Contents) (a r d : ℕ) (e : Named) → Err e ≡ membership_of a r d → OfferedByNumbers {S = S} a r d (membership_of a r d) v (Err e) v
numbers-refused S v a r d e q = go (membership_of a r d) q (numbers_tell a r d)
  where
    go : (x : Result Membership Named) → Err e ≡ x → Numbered a r d x → OfferedByNumbers {S = S} a r d x v (Err e) v
    go (Ok m) p n = let z : ◌≡◌ {A = ℕ} 0 1 = cc in absurd (omega arith)
    go (Err f) p n =
        let s : e ≡ f = cc in
        (ap Err s, subst (λ (x : Named). Happened v (refused (offer a r d) x) v) (sym n.0) (happened v v (refused (offer a r d) (_)) tt (out_of_range n.1) refl))
