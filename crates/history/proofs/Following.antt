-- An offer follows the model of the standing credentials.
use Rattle.std.proofs.Common.{◌≡◌, ℕ, suc, ◌↔◌, sym, refl, ◌∙◌, subst, arith}
use mathlib.Core.Option.{some}
use Rattle.credential.specs.declared.memberships.Membership.{Membership}
use Rattle.credential.specs.Refusals.{Named, refused as by, number_in}
use Rattle.model.specs.Stages.{IsModelTrue, IsModelFalse, IsModelUndefined}
use Rattle.model.specs.Tables.{Table, IsT, IsF, IsU}
use Rattle.model.proofs.Soundness.{certificates_show_the_model}
use Rattle.history.specs.Events.{Making, Call, Event, History, publish, withdraw, certify, adopt, offer, draw, decline, hand_back, published, withdrawn, certified, adopted, offered, drawn, declined, handed_back, refused, call, asked, Taken}
use Rattle.history.specs.Words.{standing, certificate, offers_given}
use Rattle.history.specs.Law.{facts, Due, Refuses, out_of_range, no_certificate, is_false, is_undefined, book_full, all_given}
use Rattle.history.specs.Theorems.{OffersFollow, RefusalsFollow}
use Rattle.history.proofs.Offers.{stands-certified, same-verdict}
use Rattle.history.proofs.Unique.{one_answer}

abbrev IsOffer : Call → Type 0
IsOffer (publish c) = ⊥
IsOffer (withdraw p) = ⊥
IsOffer (certify b) = ⊥
IsOffer (adopt t) = ⊥
IsOffer (offer a r d) = Unit {0}
IsOffer (draw s) = ⊥
IsOffer (decline s) = ⊥
IsOffer (hand_back s) = ⊥

pub offers_follow : OffersFollow
offers_follow k h e m t conf q f few fewer = (
  taken e conf.2 q,
  λ x.
      let o = offered m (record { vault = k.vault; serial = suc (offers_given h) }) in
      subst Taken (sym (one_answer k h e o conf.2 ((t, f, shown.0.1 x), few, fewer, refl) q)) tt,
)
  where
    shown : (IsT t m ↔ IsModelTrue (standing k h) m) × (IsF t m ↔ IsModelFalse (standing k h) m) × (IsU t m ↔ IsModelUndefined (standing k h) m)
    shown = certificates_show_the_model (standing k h) t (stands-certified k h t conf.0 f) m

    taken : (e : Event) → Due (facts k h) e → call e ≡ asked m → Taken e → IsModelTrue (standing k h) m
    taken (published c) d q x = absurd (subst IsOffer (sym q) tt)
    taken (withdrawn p) d q x = absurd (subst IsOffer (sym q) tt)
    taken (certified b u n) d q x = absurd (subst IsOffer (sym q) tt)
    taken (adopted u) d q x = absurd (subst IsOffer (sym q) tt)
    taken (drawn s l) d q x = absurd (subst IsOffer (sym q) tt)
    taken (declined s) d q x = absurd (subst IsOffer (sym q) tt)
    taken (handed_back s) d q x = absurd (subst IsOffer (sym q) tt)
    taken (offered n s) d q x = shown.0.0 (sym (same-verdict (certificate h) n m d.0.0 t (asked m) q refl d.0.1 f) ∙ d.0.2)
    taken (refused c n) d q x = absurd x

-- what an offer that is refused by 17, or by 18, shows of its verdict
module _ (k : Making) (h : History) (m : Membership) (t : Table) (f : certificate h ≡ some t) where
  by_17 : (a r d : ℕ) (e : Named) → asked m ≡ offer a r d → number_in e ≡ 17 → Refuses (facts k h) (offer a r d) e → IsF t m
  by_17 a r d e q z (out_of_range x) = absurd (omega (arith, z))
  by_17 a r d e q z (no_certificate x y) = absurd (omega (arith, z))
  by_17 a r d e q z (is_false n w s) = same-verdict (certificate h) m n t s.0 (offer a r d) q w f s.1 ∙ s.2
  by_17 a r d e q z (is_undefined n w s) = absurd (omega (arith, z))
  by_17 a r d e q z (book_full n w s o) = absurd (omega (arith, z))
  by_17 a r d e q z (all_given n w s o g) = absurd (omega (arith, z))

  by_18 : (a r d : ℕ) (e : Named) → asked m ≡ offer a r d → number_in e ≡ 18 → Refuses (facts k h) (offer a r d) e → IsU t m
  by_18 a r d e q z (out_of_range x) = absurd (omega (arith, z))
  by_18 a r d e q z (no_certificate x y) = absurd (omega (arith, z))
  by_18 a r d e q z (is_false n w s) = absurd (omega (arith, z))
  by_18 a r d e q z (is_undefined n w s) = same-verdict (certificate h) m n t s.0 (offer a r d) q w f s.1 ∙ s.2
  by_18 a r d e q z (book_full n w s o) = absurd (omega (arith, z))
  by_18 a r d e q z (all_given n w s o g) = absurd (omega (arith, z))

pub refusals_follow : RefusalsFollow
refusals_follow k h e m t c q f =
    let s = certificates_show_the_model (standing k h) t (stands-certified k h t c.0 f) m in (
      (
        (λ z. s.1.0 (by_17 k h m t f _ _ _ (by 17) refl refl (subst (Due (facts k h)) z c.2))),
        λ z. one_answer k h e (refused (asked m) (by 17)) c.2 (is_false m refl (t, f, s.1.1 z)) q,
      ),
      (
        (λ z. s.2.0 (by_18 k h m t f _ _ _ (by 18) refl refl (subst (Due (facts k h)) z c.2))),
        λ z. one_answer k h e (refused (asked m) (by 18)) c.2 (is_undefined m refl (t, f, s.2.1 z)) q,
      ),
    )
