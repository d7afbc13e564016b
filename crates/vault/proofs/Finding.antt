-- A search through the book, a count over it, and a change of one record.
use Rattle.std.proofs.Common.{◌≡◌, ℕ, ◌+◌, ◌<◌, Bool, true, false, cond, eqb, List, [], ◌∷◌, map, length, get_or, set, position, count_by, Some, Option, sym, refl, ap, ◌∙◌, arith}
use Rattle.std.specs.List.{position_from}
use Rattle.std.proofs.lemmas.List.{get_or-map, map-set}
use Rattle.std.proofs.lemmas.List.Recursion.{is_count_by}
use Rattle.std.proofs.lemmas.Iterator.Adapters.{position_from-zero}
use Rattle.history.specs.Words.{one_if, for}
use Rattle.history.specs.Contents.{Entry, is_free, is_offered, is_held, opened, in_book}
use Rattle.vault.specs.declared.book.Record.{Record}
use Rattle.vault.specs.declared.book.Turn.{Turn}
use Rattle.vault.specs.Entries.{entry, goes, turned, open_lease, is_for}

-- the entry of the record that is read
pub entry_read : (rs : List Record) (i : ℕ) (x : Record) → i < length rs → x ≡ get_or rs i x → get_or (map entry rs) i is_free ≡ entry x
entry_read rs i x h e = get_or-map entry rs i x is_free h ∙ ap entry (sym e)

-- a search of the records is one of their entries
searched_from : (p : Entry → Bool) (k : ℕ) (rs : List Record) → position_from (λ r. p (entry r)) k rs ≡ position_from p k (map entry rs)
searched_from p k [] = refl
searched_from p k (r ∷ rs) = ap (λ (o : Option ℕ). cond (p (entry r)) (Some k) o) (searched_from p (k + 1) rs)

pub searched : (p : Entry → Bool) (rs : List Record) → position (λ r. p (entry r)) rs ≡ position p (map entry rs)
searched p rs = position_from-zero (λ r. p (entry r)) rs ∙ searched_from p 0 rs ∙ sym (position_from-zero p (map entry rs))

-- the open records of a role name are counted
one_if_more : (b : Bool) (n : ℕ) → one_if b + n ≡ cond b (1 + n) n
one_if_more true n = refl
one_if_more false n = omega arith

one_open : (r : ℕ) (e : Entry) (n : ℕ) → opened (λ l b. for r l) e + n ≡ cond (is_for r (open_lease e)) (1 + n) n
one_open r is_free n = omega arith
one_open r (is_offered x) n = one_if_more (eqb x.membership.role.name.number r) n
one_open r (is_held x) n = one_if_more (eqb x.membership.role.name.number r) n

pub counted : (r : ℕ) (rs : List Record) → in_book (λ l b. for r l) (map entry rs) ≡ count_by (λ x. is_for r (open_lease (entry x))) rs
counted r rs =
    is_count_by (λ (xs : List Record). in_book (λ l b. for r l) (map entry xs)) (λ x. is_for r (open_lease (entry x))) refl
    (λ x xs. one_open r (entry x) (in_book (λ l b. for r l) (map entry xs))) rs

-- one record changed
pub one_turned : (rs : List Record) (i : ℕ) (x y : Record) (call : Turn) → i < length rs → x ≡ get_or rs i x → entry y ≡ turned (entry x) call
    → map entry (set rs i y) ≡ set (map entry rs) i (turned (get_or (map entry rs) i is_free) call)
one_turned rs i x y call h e q =
    map-set entry rs i y ∙ ap (λ (a : Entry). set (map entry rs) i a) (q ∙ ap (λ (a : Entry). turned a call) (sym (entry_read rs i x h e)))

pub one_went : (rs : List Record) (i : ℕ) (x : Record) (call : Turn) (t : Bool) → i < length rs → x ≡ get_or rs i x → t ≡ goes (entry x) call
    → t ≡ goes (get_or (map entry rs) i is_free) call
one_went rs i x call t h e q = q ∙ ap (λ (a : Entry). goes a call) (sym (entry_read rs i x h e))
