-- What the first place that a test holds at says of the book.
use Rattle.std.proofs.Common.{◌≡◌, ℕ, zero, suc, ◌+◌, ◌<◌, ◌≤◌, Bool, true, false, cond, List, [], ◌∷◌, map, length, get_or, set, position, Decides, is_some, Some, None, Option, sym, refl, ap, ◌∙◌, subst, le_of_suc-le-suc, not-suc-le-zero, arith}
use Rattle.std.specs.List.{position_from}
use Rattle.std.proofs.lemmas.List.Quantifiers.{position-Some}
use Rattle.std.proofs.lemmas.Iterator.Adapters.{position_from-zero}
use Rattle.std.proofs.lemmas.List.{get_or_default, length-map}
use Rattle.std.proofs.lemmas.Bool.{eqb-true, eq-eqb}
use Rattle.history.specs.Words.{Lease}
use Rattle.history.specs.Contents.{Entry, is_free, is_offered, is_held, in_book}
use Rattle.history.specs.Steps.{FirstFree, RecordOf}
use Rattle.vault.specs.declared.book.Lease as book
use Rattle.vault.specs.declared.book.Record.{Record}
use Rattle.vault.specs.declared.book.Turn.{Turn}
use Rattle.vault.specs.declared.book.State.{State}
use Rattle.vault.specs.declared.book.State.TheVariants as s
use Rattle.vault.specs.Entries.{entry, lease, in_state, is_of, open_lease, turned, is_spare, Settled}
use Rattle.vault.proofs.Finding.{searched, entry_read}
use Rattle.vault.proofs.Balance.{turned-there}

-- what a search for the lease with a serial in a state found: its record, or that there is none
abbrev pub Found : List Entry → ℕ → State → Option ℕ → Type 0
Found es n t None = (i : ℕ) (x : Lease) → RecordOf (in_state t) es n i x → ⊥
Found es n t (Some i) = (x : Lease) × RecordOf (in_state t) es n i x

-- what a search for a free record found: the first, in a book that is not full, or that all are open
abbrev pub Spare : List Entry → Option ℕ → Type 0
Spare es None = in_book (λ x b. 1) es ≡ length es
Spare es (Some i) = FirstFree es i × (in_book (λ x b. 1) es < length es)

earlier : {X : Type 0} (p : X → Bool) (x : X) (xs : List X) (j : ℕ) → p x ≡ false → ((m : ℕ) (d : X) → m < j → p (get_or xs m d) ≡ false)
    → (m : ℕ) (d : X) → m < suc j → p (get_or (x ∷ xs) m d) ≡ false
earlier p x xs j t f zero d h = t
earlier p x xs j t f (suc m) d h = f m d (le_of_suc-le-suc h)

first-none : {X : Type 0} (p : X → Bool) (k : ℕ) (xs : List X) → position_from p k xs ≡ None → (m : ℕ) (d : X) → m < length xs → p (get_or xs m d) ≡ false
first-none p k [] e = λ m d h. absurd (not-suc-le-zero h)
first-none {X} p k (x ∷ xs) e = go (p x) refl e (first-none p (k + 1) xs)
  where
    go : (b : Bool) → p x ≡ b → cond b (Some k) (position_from p (k + 1) xs) ≡ None
        → (position_from p (k + 1) xs ≡ None → (m : ℕ) (d : X) → m < length xs → p (get_or xs m d) ≡ false)
        → (m : ℕ) (d : X) → m < suc (length xs) → p (get_or (x ∷ xs) m d) ≡ false
    go true t q f = let z : ◌≡◌ {A = ℕ} 0 1 = cc in absurd (omega arith)
    go false t q f = earlier p x xs (length xs) t (f q)

-- the lease that an entry has, and the entry
pub its_entry : (n : ℕ) (t : State) (e : Entry) → is_of n t e ≡ true → (x : Lease) × (e ≡ in_state t x) × (x.serial ≡ n)
its_entry n t is_free q = let z : ◌≡◌ {A = ℕ} 0 1 = cc in absurd (omega arith)
its_entry n s.Offered (is_offered y) q = (y, refl, eqb-true y.serial n q)
its_entry n s.Held (is_offered y) q = let z : ◌≡◌ {A = ℕ} 0 1 = cc in absurd (omega arith)
its_entry n s.Offered (is_held y) q = let z : ◌≡◌ {A = ℕ} 0 1 = cc in absurd (omega arith)
its_entry n s.Held (is_held y) q = (y, refl, eqb-true y.serial n q)

has_lease : (n : ℕ) (t : State) (x : Lease) → x.serial ≡ n → is_of n t (in_state t x) ≡ true
has_lease n s.Offered x q = eq-eqb x.serial n q
has_lease n s.Held x q = eq-eqb x.serial n q

-- the record that was found, or that none has the lease
found_entry : (es : List Entry) (n : ℕ) (t : State) (r : Option ℕ) → r ≡ position (is_of n t) es → Found es n t r
found_entry es n t None q = λ i x h.
    let f : is_of n t (get_or es i is_free) ≡ false = first-none (is_of n t) 0 es (sym (q ∙ position_from-zero (is_of n t) es)) i is_free h.0.0 in
    let y : is_of n t (get_or es i is_free) ≡ true = ap (is_of n t) (h.0.1 is_free) ∙ has_lease n t x h.1 in
    let z : ◌≡◌ {A = ℕ} 0 1 = cc in
    omega arith
found_entry es n t (Some i) q =
    let f = position-Some (is_of n t) es i is_free (sym q) in
    let e = its_entry n t (get_or es i is_free) f.1 in
    (e.0, ((f.0, λ d. get_or_default es i d is_free f.0 ∙ e.1), e.2))

pub found : (rs : List Record) (n : ℕ) (t : State) (r : Option ℕ) → r ≡ position (λ x. is_of n t (entry x)) rs → Found (map entry rs) n t r
found rs n t r q = found_entry (map entry rs) n t r (q ∙ searched (is_of n t) rs)

-- whether a record has the lease
pub has_found : (rs : List Record) (n : ℕ) (t : State) (r : Option ℕ) → r ≡ position (λ x. is_of n t (entry x)) rs
    → Decides (is_some r) ((i : ℕ) × (l : Lease) × RecordOf (in_state t) (map entry rs) n i l)
has_found rs n t None q = ((λ w. let z : ◌≡◌ {A = ℕ} 0 1 = cc in absurd (omega arith)), λ w. absurd (found rs n t None q w.0 w.1 w.2))
has_found rs n t (Some i) q = let f = found rs n t (Some i) q in ((λ w. (i, f.0, f.1)), λ w. refl)

-- the lease of the record that was found is open, and its record is turned
opened_in : (t : State) (x : Lease) → open_lease (in_state t x) ≡ Some x
opened_in s.Offered x = refl
opened_in s.Held x = refl

module _ (rs : List Record) (n : ℕ) (t : State) (i : ℕ) (r : Record) (q : Some i ≡ position (λ x. is_of n t (entry x)) rs) (e : r ≡ get_or rs i r) where
  abbrev it : (x : Lease) × RecordOf (in_state t) (map entry rs) n i x
  it = found rs n t (Some i) q

  its_state : entry r ≡ in_state t it.0
  its_state = sym (entry_read rs i r (omega (arith, it.1.0.0, length-map rs entry)) e) ∙ it.1.0.1 is_free

  pub not_open : None ≡ open_lease (entry r) → ⊥
  not_open k =
      let p : None ≡ Some it.0 = k ∙ ap open_lease its_state ∙ opened_in t it.0 in
      let z : ◌≡◌ {A = ℕ} 0 1 = cc in
      omega arith

  pub settled : (l : book.Lease) (call : Turn) (fs : List Entry) → Some (lease l) ≡ open_lease (entry r)
      → fs ≡ set (map entry rs) i (turned (get_or (map entry rs) i is_free) call) → Settled (map entry rs) n t call (Some l) fs
  settled l call fs k a =
      let p : Some (lease l) ≡ Some it.0 = k ∙ ap open_lease its_state ∙ opened_in t it.0 in
      let s : it.0 ≡ lease l = cc in
      let h : RecordOf (in_state t) (map entry rs) n i (lease l) = subst (λ (x : Lease). RecordOf (in_state t) (map entry rs) n i x) s it.1 in
      (i, h, turned-there (map entry rs) fs i (in_state t (lease l)) call h.0 a)

-- a full book, and one that is not
one_spare : (e : Entry) → is_spare e ≡ true → e ≡ is_free
one_spare is_free q = refl
one_spare (is_offered x) q = let z : ◌≡◌ {A = ℕ} 0 1 = cc in absurd (omega arith)
one_spare (is_held x) q = let z : ◌≡◌ {A = ℕ} 0 1 = cc in absurd (omega arith)

all_open : (k : ℕ) (es : List Entry) → position_from is_spare k es ≡ None → in_book (λ x b. 1) es ≡ length es
all_open k [] q = refl
all_open k (is_free ∷ es) q = let z : ◌≡◌ {A = ℕ} 0 1 = cc in absurd (omega arith)
all_open k (is_offered x ∷ es) q = omega (arith, all_open (k + 1) es q)
all_open k (is_held x ∷ es) q = omega (arith, all_open (k + 1) es q)

at_most : (es : List Entry) → in_book (λ x b. 1) es ≤ length es
at_most [] = omega arith
at_most (is_free ∷ es) = omega (arith, at_most es)
at_most (is_offered x ∷ es) = omega (arith, at_most es)
at_most (is_held x ∷ es) = omega (arith, at_most es)

not_all : (k i : ℕ) (es : List Entry) → position_from is_spare k es ≡ Some i → in_book (λ x b. 1) es < length es
not_all k i [] q = let z : ◌≡◌ {A = ℕ} 0 1 = cc in absurd (omega arith)
not_all k i (is_free ∷ es) q = omega (arith, at_most es)
not_all k i (is_offered x ∷ es) q = omega (arith, not_all (k + 1) i es q)
not_all k i (is_held x ∷ es) q = omega (arith, not_all (k + 1) i es q)

spare_entry : (es : List Entry) (r : Option ℕ) → r ≡ position is_spare es → Spare es r
spare_entry es None q = all_open 0 es (sym (q ∙ position_from-zero is_spare es))
spare_entry es (Some i) q =
    let f = position-Some is_spare es i is_free (sym q) in
    let t : get_or es i is_free ≡ is_free = one_spare (get_or es i is_free) f.1 in (
      (
        (f.0, λ d. get_or_default es i d is_free f.0 ∙ t),
        λ j d h e.
            let n : is_spare (get_or es j d) ≡ false = (position-Some is_spare es i d (sym q)).2 j h in
            let y : is_spare (get_or es j d) ≡ true = ap is_spare e in
            let z : ◌≡◌ {A = ℕ} 0 1 = cc in
            absurd (omega arith),
      ),
      not_all 0 i es (sym (q ∙ position_from-zero is_spare es)),
    )

pub found_spare : (rs : List Record) (r : Option ℕ) → r ≡ position (λ x. is_spare (entry x)) rs → Spare (map entry rs) r
found_spare rs r q = spare_entry (map entry rs) r (q ∙ searched is_spare rs)
