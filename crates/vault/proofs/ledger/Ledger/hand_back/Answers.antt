use Rattle.std.proofs.Common.{sym, subst}
use Rattle.history.specs.Contents.{Figures}
use Rattle.vault.specs.Balance.{in_lists, Balanced}
use Rattle.vault.specs.Books.{entries}
use Rattle.vault.specs.Entries.{lease}
use Rattle.vault.proofs.Balance.{balanced_hand_back, hand_back_counted}
use Rattle.vault.proofs.ledger.Ledger.hand_back.Goals as goal

pub invariant_of-self-2 : goal.invariant_of-self-2
invariant_of-self-2 c =
    let was = c.args.self.now in
    let s = c.in-Some.ensures in
    let x = lease c.in-Some.lease in
    let e = hand_back_counted was.given was.figures x.membership.role.name c.index.result c.index.ensures.value was.balanced.2 in
    record {
      few = was.few;
      balanced = subst (λ (f : Figures). Balanced f (entries c.settle.new.self)) (sym e) (balanced_hand_back (in_lists was.given was.figures) (entries was.book) (entries c.settle.new.self) s.0 was.balanced x s.1.0 s.2);
    }

pub returns : goal.returns
returns c =
    let was = c.args.self.now in
    let s = c.in-Some.ensures in
    let x = lease c.in-Some.lease in
    let e = hand_back_counted was.given was.figures x.membership.role.name c.index.result c.index.ensures.value was.balanced.2 in
    (s.0, x, s.1, λ j. record { figures = e j; book = s.2 j })
