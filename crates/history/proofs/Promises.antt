-- The whole promise, from the agreement of contents and history.
use Rattle.std.proofs.Common.{◌≡◌, ℕ, List, [], ◌∷◌, ◌++◌, sym, subst, arith}
use Rattle.history.specs.Events.{Making, History, certified, adopted}
use Rattle.history.specs.Words.{for, given, declined_of, handed_back_of, open_of}
use Rattle.history.specs.Law.{facts, Due, Conforms}
use Rattle.history.specs.Contents.{Contents, figure, in_book, Tells, Keeps}
use Rattle.history.specs.Statement.{statement, statement_by}
use Rattle.history.specs.Promise.{Past, PromiseMet, AgreementMet}
use Rattle.history.proofs.Leases.{balances}
use Rattle.history.proofs.Offers.{tables_model}
use Rattle.history.proofs.Unique.{one_answer, filled_is_adopted}
use Rattle.history.proofs.Following.{offers_follow, refusals_follow}
use Rattle.history.proofs.Recording.{to_record, of_record, once}
use Rattle.history.proofs.Stating.{Agree, stated-same}

-- a history conforms at every time before
conformed : (k : Making) (since g : History) → Conforms k (since ++ g) → Conforms k g
conformed k [] g c = c
conformed k (e ∷ since) g c = conformed k since g c.0

past_conforms : (k : Making) (g h : History) → Past g h → Conforms k h → Conforms k g
past_conforms k g h p c = conformed k p.0 g (subst (Conforms k) (sym p.1) c)

told : (xs : List ℕ) (f : ℕ → ℕ) → Tells xs f → Agree 16 (figure xs) f
told xs f t r low high = t.1 (record { number = r; low = low; high = high })

statement-same : (k : Making) (h : History) (v : Contents) → Keeps k h v → (us : List ℕ) → statement us v ≡ statement_by us h
statement-same k h v a us =
    stated-same (figure us) (figure v.figures.givens) (figure v.figures.declineds) (figure v.figures.handed_backs) (λ r. in_book (λ l b. for r l) v.book)
    (λ r. given (for r) h) (λ r. declined_of (for r) h) (λ r. handed_back_of (for r) h) (λ r. open_of (for r) h)
    (told _ _ a.figures.1) (told _ _ a.figures.2) (told _ _ a.figures.3) (λ r low high. a.book.1 (λ l b. for r l))

pub promise_met : PromiseMet
promise_met k h v a =
    record {
      answers_due = λ g e f p. let c = at (e ∷ g) p in (c.1, c.2, λ d q. one_answer k g f e d c.2 q);
      offers_follow = λ g e m t p. offers_follow k g e m t (at (e ∷ g) p);
      refusals_follow = λ g e m t p. refusals_follow k g e m t (at (e ∷ g) p);
      filled_show_the_model = λ g b t n p. tables_model.0 k g b t n (at (certified b t n ∷ g) p);
      adopted_show_the_model = λ g t p. tables_model.1 k g t (at (adopted t ∷ g) p);
      leases_conserved = λ w. omega (arith, balances k h a.conforms w, a.book.1 (λ l b. w l));
      leases_recorded = λ l s. (to_record k h v a l s, λ r. of_record k h v a l s r.0 r.1);
      recorded_once = once k h v a;
      statement_due = statement-same k h v a;
    }
  where
    at : (g : History) → Past g h → Conforms k g
    at g p = past_conforms k g h p a.conforms

pub agreement_met : AgreementMet
agreement_met k l g h c d i j b t n e p q same =
    let x = past_conforms k (certified b t n ∷ i) g p c in
    let y = past_conforms l (e ∷ j) h q d in
    let f = filled_is_adopted k l i j b t n x.2 same in
    (one_answer l j e (adopted t) y.2 f.0, λ u z m. (f.1 u (subst (Due (facts l j)) z y.2) m).1)
