-- The balance of figures and book outlasts each call.
use Rattle.std.proofs.Common.{◌≡◌, ℕ, suc, ◌+◌, ◌-◌, ◌<◌, ◌≤◌, Bool, true, false, eqb, List, map, length, get_or, set, vec_items, Some, None, Option, sym, refl, ap, ◌∙◌, subst, add-one, arith}
use Rattle.std.proofs.lemmas.List.{length-map, length-set, map-set, get_or-map}
use Rattle.std.proofs.Math.Seq.{map-set_same}
use Rattle.credential.specs.declared.memberships.Membership.{Membership}
use Rattle.credential.specs.Numbers.{RoleName}
use Rattle.history.specs.Words.{total, one_if, HasItemAt, Lease, for}
use Rattle.history.specs.Contents as contents
use Rattle.history.specs.Contents.{Entry, is_free, is_offered, is_held, opened, in_book, figure, one_more}
use Rattle.history.specs.Steps.{one_given, one_declined, one_handed_back}
use Rattle.history.proofs.Sums.{total-set}
use Rattle.history.proofs.Keeping.{figure_more}
use Rattle.vault.specs.declared.book.Book.{Book}
use Rattle.vault.specs.declared.book.Lease as book
use Rattle.vault.specs.declared.book.State.TheVariants as s
use Rattle.vault.specs.declared.book.Turn.{Turn}
use Rattle.vault.specs.declared.book.Turn.TheVariants.{Draw}
use Rattle.vault.specs.Entries.{entry, lease, turned, Settled}
use Rattle.vault.specs.Books.{entries}
use Rattle.vault.specs.declared.ledger.Figures.{Figures}
use Rattle.vault.specs.Balance.{in_lists, Even, Balanced}

-- a book has 256 entries
pub full_book : (b : Book) → length (entries b) ≡ 256
full_book b = omega (arith, length-map (vec_items b.records) entry, b.full, b.records.ok.0)

-- a call turns the entry that is there
pub turned-there : (es fs : List Entry) (i : ℕ) (e : Entry) (call : Turn) → HasItemAt es i e → fs ≡ set es i (turned (get_or es i is_free) call) → fs ≡ set es i (turned e call)
turned-there es fs i e call h q = q ∙ ap (λ (x : Entry). set es i (turned x call)) (h.1 is_free)

-- what a role name has in the book after one entry was exchanged
exchanged : (es fs : List Entry) (i : ℕ) (e f : Entry) (r : ℕ) → HasItemAt es i e → fs ≡ set es i f
    → in_book (λ l b. for r l) fs + opened (λ l b. for r l) e ≡ in_book (λ l b. for r l) es + opened (λ l b. for r l) f
exchanged es fs i e f r h q =
    let w : Entry → ℕ = opened (λ l b. for r l) in
    omega (arith, total-set w es i f e h, ap (λ (xs : List Entry). total w xs) q)

module _ (r : RoleName) (xs : List ℕ) (l : length xs ≡ 16) where
  sixteen_more : length (one_more r xs) ≡ 16
  sixteen_more = length-set xs (r.number - 1) (suc (figure xs r.number)) ∙ l

one_most : (b : Bool) → one_if b ≤ 1
one_most true = omega arith
one_most false = omega arith

module _ (f : contents.Figures) (es fs : List Entry) (i : ℕ) (now : Balanced f es) where
  pub balanced_offer : (m : Membership) (s : ℕ) → HasItemAt es i is_free → fs ≡ set es i (is_offered (record { serial = s; membership = m }))
      → Balanced (one_given m.role.name f) fs
  balanced_offer m s h q = (sixteen_more m.role.name f.givens now.0, now.1, now.2, λ r. even r)
    where
      even : (r : RoleName) → Even (one_given m.role.name f) fs r
      even r =
          let x = exchanged es fs i is_free (is_offered (record { serial = s; membership = m })) r.number h q in
          let y = figure_more f.givens m.role.name r now.0 in
          let z = one_most (eqb m.role.name.number r.number) in
          (omega (arith, y, z, (now.3 r).0), omega (arith, x, y, (now.3 r).1))

  drawn : (k : ℕ) (x : Lease) → HasItemAt es k (is_offered x) → fs ≡ set es k (is_held x) → Balanced f fs
  drawn k x h q = (now.0, now.1, now.2, λ r. ((now.3 r).0, omega (arith, exchanged es fs k (is_offered x) (is_held x) r.number h q, (now.3 r).1)))

  pub settled_draw : (n : ℕ) (r : Option book.Lease) → Settled es n s.Offered Draw r fs → Balanced f fs
  settled_draw n None q = subst (λ (xs : List Entry). Balanced f xs) (sym q.1) now
  settled_draw n (Some l) q = drawn q.0 (lease l) q.1.0 q.2

  pub balanced_decline : (x : Lease) → HasItemAt es i (is_offered x) → fs ≡ set es i is_free → Balanced (one_declined x.membership.role.name f) fs
  balanced_decline x h q = (
    now.0,
    sixteen_more x.membership.role.name f.declineds now.1,
    now.2,
    λ r. ((now.3 r).0, omega (arith, exchanged es fs i (is_offered x) is_free r.number h q, figure_more f.declineds x.membership.role.name r now.1, (now.3 r).1)),
  )

  pub balanced_hand_back : (x : Lease) → HasItemAt es i (is_held x) → fs ≡ set es i is_free → Balanced (one_handed_back x.membership.role.name f) fs
  balanced_hand_back x h q = (
    now.0,
    now.1,
    sixteen_more x.membership.role.name f.handed_backs now.2,
    λ r. ((now.3 r).0, omega (arith, exchanged es fs i (is_held x) is_free r.number h q, figure_more f.handed_backs x.membership.role.name r now.2, (now.3 r).1)),
  )

-- the figures of a role name, one of them one more
abbrev none_yet : Figures
none_yet = record { given = 0; declined = 0; handed_back = 0 }

module _ (fs : List Figures) (r : RoleName) (i : ℕ) (at : i ≡ r.number - 1) (y : Figures) where
  raised : (p : Figures → ℕ) → length (map p fs) ≡ 16 → p y ≡ p (get_or fs i none_yet) + 1 → map p (set fs i y) ≡ one_more r (map p fs)
  raised p l q =
      let h : i < length fs = omega (arith, length-map fs p, l, at, r.low, r.high) in
      map-set p fs i y
      ∙ (λ j. set (map p fs) (at j) ((q ∙ add-one (p (get_or fs i none_yet)) ∙ ap suc (sym (get_or-map p fs i none_yet 0 h) ∙ ap (λ (n : ℕ). get_or (map p fs) n 0) at)) j))

  kept : (p : Figures → ℕ) → p y ≡ p (get_or fs i none_yet) → map p (set fs i y) ≡ map p fs
  kept p q = map-set_same p fs i y none_yet q

abbrev pub given_more : Figures → Figures
given_more f = record { given = f.given + 1; declined = f.declined; handed_back = f.handed_back }

abbrev pub declined_more : Figures → Figures
declined_more f = record { given = f.given; declined = f.declined + 1; handed_back = f.handed_back }

abbrev pub handed_back_more : Figures → Figures
handed_back_more f = record { given = f.given; declined = f.declined; handed_back = f.handed_back + 1 }

module _ (n : ℕ) (fs : List Figures) (r : RoleName) (i : ℕ) (at : i ≡ r.number - 1) where
  pub offer_counted : length (map (λ (f : Figures). f.given) fs) ≡ 16 → in_lists (n + 1) (set fs i (given_more (get_or fs i none_yet))) ≡ one_given r (in_lists n fs)
  offer_counted l =
      let y = given_more (get_or fs i none_yet) in
      λ j. record { total = add-one n j; givens = raised fs r i at y (λ f. f.given) l refl j; declineds = kept fs r i at y (λ f. f.declined) refl j; handed_backs = kept fs r i at y (λ f. f.handed_back) refl j }

  pub decline_counted : length (map (λ (f : Figures). f.declined) fs) ≡ 16 → in_lists n (set fs i (declined_more (get_or fs i none_yet))) ≡ one_declined r (in_lists n fs)
  decline_counted l =
      let y = declined_more (get_or fs i none_yet) in
      λ j. record { total = n; givens = kept fs r i at y (λ f. f.given) refl j; declineds = raised fs r i at y (λ f. f.declined) l refl j; handed_backs = kept fs r i at y (λ f. f.handed_back) refl j }

  pub hand_back_counted : length (map (λ (f : Figures). f.handed_back) fs) ≡ 16 → in_lists n (set fs i (handed_back_more (get_or fs i none_yet))) ≡ one_handed_back r (in_lists n fs)
  hand_back_counted l =
      let y = handed_back_more (get_or fs i none_yet) in
      λ j. record { total = n; givens = kept fs r i at y (λ f. f.given) refl j; declineds = kept fs r i at y (λ f. f.declined) refl j; handed_backs = raised fs r i at y (λ f. f.handed_back) l refl j }

-- no figure passes the most offers
pub figures_few : (n : ℕ) (fs : List Figures) (es : List Entry) (i : ℕ) → Balanced (in_lists n fs) es → n ≤ 999999 → i < 16
    → ((get_or fs i none_yet).given ≤ 999999) × ((get_or fs i none_yet).declined ≤ 999999) × ((get_or fs i none_yet).handed_back ≤ 999999)
figures_few n fs es i b few h =
    let r : RoleName = record { number = i + 1; low = omega arith; high = omega arith } in
    let k : i + 1 - 1 ≡ i = omega arith in
    let l : i < length fs = omega (arith, length-map fs (λ (f : Figures). f.given), b.0) in
    let read = λ (p : Figures → ℕ). ap (λ (m : ℕ). get_or (map p fs) m 0) k ∙ get_or-map p fs i none_yet 0 l in
    let g = read (λ (f : Figures). f.given) in
    let d = read (λ (f : Figures). f.declined) in
    let a = read (λ (f : Figures). f.handed_back) in
    let e = b.3 r in
    (omega (arith, few, g, e.0), omega (arith, few, g, d, e.0, e.1), omega (arith, few, g, a, e.0, e.1))
