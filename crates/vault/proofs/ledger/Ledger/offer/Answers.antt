use Rattle.std.proofs.Common.{vec_items, ◌+◌, sym, refl, subst, inl, inr, add-one, arith}
use Rattle.history.specs.Contents.{Figures, is_free}
use Rattle.vault.specs.declared.book.Turn.TheVariants.{Offer}
use Rattle.vault.specs.Balance.{in_lists, Balanced}
use Rattle.vault.specs.Books.{entries}
use Rattle.vault.proofs.Balance.{full_book, turned-there, balanced_offer, offer_counted}
use Rattle.vault.proofs.Found.{found_spare}
use Rattle.vault.proofs.ledger.Ledger.offer.Goals as goal

pub returns-in_default : goal.returns-in_default
returns-in_default c =
    (refl, inl (refl, omega (arith, found_spare (vec_items c.args.self.now.book.records) _ c.in_default.ensures, full_book c.args.self.now.book)))

pub returns-then-self-eq-MOST_OFFERS : goal.returns-then-self-eq-MOST_OFFERS
returns-then-self-eq-MOST_OFFERS c = (
  refl,
  inr (refl, omega (arith, (found_spare (vec_items c.args.self.now.book.records) _ c.in-Some.ensures).1, full_book c.args.self.now.book), c.if-self-eq-MOST_OFFERS.true),
)

pub turn-requires : goal.turn-requires
turn-requires c = omega (arith, (found_spare (vec_items c.args.self.now.book.records) _ c.in-Some.ensures).0.0.0, full_book c.args.self.now.book)

pub invariant_of-self : goal.invariant_of-self
invariant_of-self c =
    let was = c.args.self.now in
    let h = (found_spare (vec_items was.book.records) _ c.in-Some.ensures).0.0 in
    let q = turned-there (entries was.book) (entries c.turn.new.self) c.in-Some.i is_free (Offer (record { serial = was.given + 1; membership = c.args.membership })) h c.turn.ensures.after in
    let e = offer_counted was.given was.figures c.args.membership.role.name c.index.result c.index.ensures.value was.balanced.0 in
    record {
      few = omega (arith, was.few, c.if-self-eq-MOST_OFFERS.false);
      balanced = subst (λ (f : Figures). Balanced f (entries c.turn.new.self)) (sym e) (balanced_offer (in_lists was.given was.figures) (entries was.book) (entries c.turn.new.self) c.in-Some.i was.balanced c.args.membership _ h q);
    }

pub returns : goal.returns
returns c =
    let was = c.args.self.now in
    let s = found_spare (vec_items was.book.records) _ c.in-Some.ensures in
    let q = turned-there (entries was.book) (entries c.turn.new.self) c.in-Some.i is_free (Offer (record { serial = was.given + 1; membership = c.args.membership })) s.0.0 c.turn.ensures.after in
    let e = offer_counted was.given was.figures c.args.membership.role.name c.index.result c.index.ensures.value was.balanced.0 in (
      omega (arith, s.1, full_book was.book),
      omega (arith, was.few, c.if-self-eq-MOST_OFFERS.false),
      add-one was.given,
      (c.in-Some.i, s.0, λ j. record { figures = e j; book = q j }),
    )
