-- A credential and its letter with its fields determine each other.
use Rattle.std.proofs.Common.{◌≡◌, ℕ, ◌≤◌, leb, List, [], ◌∷◌, length, get_or, IfOk, Some, None, Ok, Err, Option, Result, sym, refl, ap, ◌∙◌, arith}
use Rattle.std.proofs.lemmas.Bool.{le-leb, cond-true}
use Rattle.std.proofs.lemmas.Bool.Decides.{nat_tests}
use Rattle.credential.specs.Numbers.{Entity, RoleName}
use Rattle.credential.specs.declared.roles.Role.{Role}
use Rattle.credential.specs.declared.letters.Letter.{Letter}
use Rattle.credential.specs.declared.letters.Letter.TheVariants as Letters
use Rattle.credential.specs.declared.letters.Mark.{Mark}
use Rattle.credential.specs.declared.letters.Mark.TheVariants.{Entity as E, RoleName as N, Blank as O}
use Rattle.credential.specs.declared.letters.Misfit.{Misfit}
use Rattle.credential.specs.declared.credentials.Credential.{Credential}
use Rattle.credential.specs.declared.credentials.Credential.TheVariants.{Member, Inclusion, Linked, Intersection, Exclusion}
use Rattle.credential.specs.declared.refusals.Refusal.{Refusal}
use Rattle.credential.specs.Refusals.{Named, answered, on_ok}
use Rattle.credential.specs.Letters.{marks_of, ranged, tested}
use Rattle.credential.specs.Credentials.{letter_of, fields_of, role_name_in, role_in, without_place, fitted, built_by, built_of, credential_of}
use Rattle.credential.proofs.Ranges.{number_of-is}

-- what went on to an answer was answered
pub on_ok_lem : {A B E : Type 0} (r : Result A E) (f : A → Result B E) (y : B) → on_ok r f ≡ Ok y → (x : A) × (r ≡ Ok x) × (f x ≡ Ok y)
on_ok_lem (Ok x) f y e = (x, refl, e)
on_ok_lem (Err d) f y e = let z : ◌≡◌ {A = ℕ} 0 1 = cc in absurd (omega arith)

-- fields that fit

pub fitted_both : (m : Mark) (ms : List Mark) (f : Option ℕ) (fs : List (Option ℕ)) → tested m f ≡ Ok tt → fitted ms fs ≡ Ok tt → fitted (m ∷ ms) (f ∷ fs) ≡ Ok tt
unfolding fitted
fitted_both m ms f fs e q = ap (λ (t : Result (Unit {0}) Misfit). on_ok (without_place t) (λ _. fitted ms fs)) e ∙ q

passed : (t : Result (Unit {0}) Misfit) → (x : Unit {0}) × (without_place t ≡ Ok x) × Unit {0} → t ≡ Ok tt
passed (Ok u) e = refl
passed (Err d) (x, e, u) = let z : ◌≡◌ {A = ℕ} 0 1 = cc in absurd (omega arith)

pub fitted_parts : (m : Mark) (ms : List Mark) (f : Option ℕ) (fs : List (Option ℕ)) → fitted (m ∷ ms) (f ∷ fs) ≡ Ok tt → (tested m f ≡ Ok tt) × (fitted ms fs ≡ Ok tt)
unfolding fitted
fitted_parts m ms f fs e =
    let p = on_ok_lem (without_place (tested m f)) (λ _. fitted ms fs) tt e in
    (passed (tested m f) (p.0, p.1, tt), p.2)

in_range : (most n : ℕ) → 1 ≤ n → n ≤ most → ranged most n ≡ Ok tt
in_range most n a b = cond-true (leb 1 n) _ _ (le-leb 1 n a) ∙ cond-true (leb n most) _ _ (le-leb n most b)

pub range_of : (most n : ℕ) → ranged most n ≡ Ok tt → (1 ≤ n) × (n ≤ most)
range_of most n e = (grind (arith, nat_tests), grind (arith, nat_tests))

fit_entity : (e : Entity) → tested E (Some e.number) ≡ Ok tt
fit_entity e = in_range 32 e.number e.low e.high

fit_name : (s : RoleName) → tested N (Some s.number) ≡ Ok tt
fit_name s = in_range 16 s.number s.low s.high

is-entity : (f : Option ℕ) → tested E f ≡ Ok tt → (e : Entity) × (Some e.number ≡ f)
is-entity None h = let z : ◌≡◌ {A = ℕ} 0 1 = cc in absurd (omega arith)
is-entity (Some n) h = let p = range_of 32 n h in (record { number = n; low = p.0; high = p.1 }, refl)

is_name : (f : Option ℕ) → tested N f ≡ Ok tt → (s : RoleName) × (Some s.number ≡ f)
is_name None h = let z : ◌≡◌ {A = ℕ} 0 1 = cc in absurd (omega arith)
is_name (Some n) h = let p = range_of 16 n h in (record { number = n; low = p.0; high = p.1 }, refl)

is-blank : (f : Option ℕ) → tested O f ≡ Ok tt → None ≡ f
is-blank None h = refl
is-blank (Some n) h = let z : ◌≡◌ {A = ℕ} 0 1 = cc in absurd (omega arith)

is-role : (f g : Option ℕ) → tested E f ≡ Ok tt → tested N g ≡ Ok tt → (h : Role) × (Some h.owner.number ≡ f) × (Some h.name.number ≡ g)
is-role f g p q = let e = is-entity f p in let s = is_name g q in (record { owner = e.0; name = s.0 }, e.1, s.1)

-- every field of a credential fits its mark

fit_role : (h : Role) (ms : List Mark) (fs : List (Option ℕ)) → fitted ms fs ≡ Ok tt → fitted (E ∷ N ∷ ms) (Some h.owner.number ∷ Some h.name.number ∷ fs) ≡ Ok tt
fit_role h ms fs q = fitted_both E _ _ _ (fit_entity h.owner) (fitted_both N _ _ _ (fit_name h.name) q)

fit_none : (ms : List Mark) (fs : List (Option ℕ)) → fitted ms fs ≡ Ok tt → fitted (O ∷ ms) (None ∷ fs) ≡ Ok tt
fit_none ms fs q = fitted_both O ms None fs refl q

fit_end : fitted [] [] ≡ Ok tt
unfolding fitted
fit_end = refl

pub fields_fit : (c : Credential) → fitted (marks_of (letter_of c)) (fields_of c) ≡ Ok tt
fields_fit (Member h d) = fit_role h _ _ (fitted_both E _ _ _ (fit_entity d) (fit_none _ _ (fit_none _ _ (fit_none _ _ fit_end))))
fields_fit (Inclusion h f) = fit_role h _ _ (fit_role f _ _ (fit_none _ _ (fit_none _ _ fit_end)))
fields_fit (Linked h s t) = fit_role h _ _ (fit_none _ _ (fitted_both N _ _ _ (fit_name s) (fit_none _ _ (fitted_both N _ _ _ (fit_name t) fit_end))))
fields_fit (Intersection h f g) = fit_role h _ _ (fit_role f _ _ (fit_role g _ _ fit_end))
fields_fit (Exclusion h f g) = fit_role h _ _ (fit_role f _ _ (fit_role g _ _ fit_end))

pub six_fields_of : (c : Credential) → length (fields_of c) ≡ 6
six_fields_of (Member h d) = refl
six_fields_of (Inclusion h f) = refl
six_fields_of (Linked h s t) = refl
six_fields_of (Intersection h f g) = refl
six_fields_of (Exclusion h f g) = refl

-- a credential is made of its letter and its fields

role-is : (h : Role) → role_in (Some h.owner.number) (Some h.name.number) ≡ Ok h
role-is h =
    ap (λ (r : Result Entity Named). on_ok r (λ owner. on_ok (role_name_in (Some h.name.number)) (λ name. Ok (record { owner = owner; name = name })))) (number_of-is h.owner)
    ∙ ap (λ (r : Result RoleName Named). on_ok r (λ name. Ok (record { owner = h.owner; name = name }))) (number_of-is h.name)

two_roles : (f g : Role) (make : Role → Role → Credential) → on_ok (role_in (Some f.owner.number) (Some f.name.number)) (λ x. on_ok (role_in (Some g.owner.number) (Some g.name.number)) (λ y. Ok (make x y))) ≡ Ok (make f g)
two_roles f g make =
    ap (λ (r : Result Role Named). on_ok r (λ x. on_ok (role_in (Some g.owner.number) (Some g.name.number)) (λ y. Ok (make x y)))) (role-is f)
    ∙ ap (λ (r : Result Role Named). on_ok r (λ y. Ok (make f y))) (role-is g)

built_by_lem : (c : Credential) (h : Role) → role_in (get_or (fields_of c) 0 None) (get_or (fields_of c) 1 None) ≡ Ok h → built_by (letter_of c) h (fields_of c) ≡ Ok c → built_of (letter_of c) (fields_of c) ≡ Ok c
built_by_lem c h e q = ap (λ (r : Result Role Named). on_ok r (λ x. built_by (letter_of c) x (fields_of c))) e ∙ q

built_is : (c : Credential) → built_of (letter_of c) (fields_of c) ≡ Ok c
built_is (Member h d) = built_by_lem (Member h d) h (role-is h) (ap (λ (r : Result Entity Named). on_ok r (λ x. Ok (Member h x))) (number_of-is d))
built_is (Inclusion h f) = built_by_lem (Inclusion h f) h (role-is h) (ap (λ (r : Result Role Named). on_ok r (λ x. Ok (Inclusion h x))) (role-is f))
built_is (Linked h s t) =
    built_by_lem (Linked h s t) h (role-is h)
    (ap (λ (r : Result RoleName Named). on_ok r (λ x. on_ok (role_name_in (Some t.number)) (λ y. Ok (Linked h x y)))) (number_of-is s)
    ∙ ap (λ (r : Result RoleName Named). on_ok r (λ y. Ok (Linked h s y))) (number_of-is t))
built_is (Intersection h f g) = built_by_lem (Intersection h f g) h (role-is h) (two_roles f g (λ x y. Intersection h x y))
built_is (Exclusion h f g) = built_by_lem (Exclusion h f g) h (role-is h) (two_roles f g (λ x y. Exclusion h x y))

pub made_of_fields : (c : Credential) → credential_of (letter_of c) (fields_of c) ≡ Ok c
made_of_fields c = ap (λ (r : Result (Unit {0}) Named). on_ok r (λ _. built_of (letter_of c) (fields_of c))) (fields_fit c) ∙ built_is c

-- six fields that fit the marks of a letter are those of a credential

six_fields : (P : List (Option ℕ) → Type 0) → ((a b c d e f : Option ℕ) → P (a ∷ b ∷ c ∷ d ∷ e ∷ f ∷ [])) → (fs : List (Option ℕ)) → length fs ≡ 6 → P fs
six_fields P each [] n = absurd (omega arith)
six_fields P each (a ∷ []) n = absurd (omega arith)
six_fields P each (a ∷ b ∷ []) n = absurd (omega arith)
six_fields P each (a ∷ b ∷ c ∷ []) n = absurd (omega arith)
six_fields P each (a ∷ b ∷ c ∷ d ∷ []) n = absurd (omega arith)
six_fields P each (a ∷ b ∷ c ∷ d ∷ e ∷ []) n = absurd (omega arith)
six_fields P each (a ∷ b ∷ c ∷ d ∷ e ∷ f ∷ []) n = each a b c d e f
six_fields P each (a ∷ b ∷ c ∷ d ∷ e ∷ f ∷ g ∷ gs) n = absurd (omega arith)

abbrev HasFields : Letter → List (Option ℕ) → Type 0
HasFields l fs = (c : Credential) × (letter_of c ≡ l) × (fields_of c ≡ fs)

six_tests : (m1 m2 m3 m4 m5 m6 : Mark) (a b c d e f : Option ℕ) → fitted (m1 ∷ m2 ∷ m3 ∷ m4 ∷ m5 ∷ m6 ∷ []) (a ∷ b ∷ c ∷ d ∷ e ∷ f ∷ []) ≡ Ok tt
    → (tested m1 a ≡ Ok tt) × (tested m2 b ≡ Ok tt) × (tested m3 c ≡ Ok tt) × (tested m4 d ≡ Ok tt) × (tested m5 e ≡ Ok tt) × (tested m6 f ≡ Ok tt)
six_tests m1 m2 m3 m4 m5 m6 a b c d e f h =
    let p1 = fitted_parts m1 _ a _ h in
    let p2 = fitted_parts m2 _ b _ p1.1 in
    let p3 = fitted_parts m3 _ c _ p2.1 in
    let p4 = fitted_parts m4 _ d _ p3.1 in
    let p5 = fitted_parts m5 _ e _ p4.1 in
    let p6 = fitted_parts m6 _ f _ p5.1 in
    (p1.0, p2.0, p3.0, p4.0, p5.0, p6.0)

fitting : (l : Letter) (a b c d e f : Option ℕ) → fitted (marks_of l) (a ∷ b ∷ c ∷ d ∷ e ∷ f ∷ []) ≡ Ok tt → HasFields l (a ∷ b ∷ c ∷ d ∷ e ∷ f ∷ [])
fitting Letters.Member a b c d e f h =
    let t = six_tests E N E O O O a b c d e f h in
    let r = is-role a b t.0 t.1 in let m = is-entity c t.2 in
    let x = is-blank d t.3 in let y = is-blank e t.4 in let z = is-blank f t.5 in
    let ra = r.1 in let rb = r.2 in let mc = m.1 in
    (Member r.0 m.0, refl, cc)
fitting Letters.Inclusion a b c d e f h =
    let t = six_tests E N E N O O a b c d e f h in
    let r = is-role a b t.0 t.1 in let s = is-role c d t.2 t.3 in
    let y = is-blank e t.4 in let z = is-blank f t.5 in
    let ra = r.1 in let rb = r.2 in let sc = s.1 in let sd = s.2 in
    (Inclusion r.0 s.0, refl, cc)
fitting Letters.Linked a b c d e f h =
    let t = six_tests E N O N O N a b c d e f h in
    let r = is-role a b t.0 t.1 in let x = is-blank c t.2 in let s = is_name d t.3 in
    let y = is-blank e t.4 in let z = is_name f t.5 in
    let ra = r.1 in let rb = r.2 in let sd = s.1 in let zf = z.1 in
    (Linked r.0 s.0 z.0, refl, cc)
fitting Letters.Intersection a b c d e f h =
    let t = six_tests E N E N E N a b c d e f h in
    let r = is-role a b t.0 t.1 in let s = is-role c d t.2 t.3 in let u = is-role e f t.4 t.5 in
    let ra = r.1 in let rb = r.2 in let sc = s.1 in let sd = s.2 in let ue = u.1 in let uf = u.2 in
    (Intersection r.0 s.0 u.0, refl, cc)
fitting Letters.Exclusion a b c d e f h =
    let t = six_tests E N E N E N a b c d e f h in
    let r = is-role a b t.0 t.1 in let s = is-role c d t.2 t.3 in let u = is-role e f t.4 t.5 in
    let ra = r.1 in let rb = r.2 in let sc = s.1 in let sd = s.2 in let ue = u.1 in let uf = u.2 in
    (Exclusion r.0 s.0 u.0, refl, cc)

pub fitting_fields : (l : Letter) (fs : List (Option ℕ)) → length fs ≡ 6 → fitted (marks_of l) fs ≡ Ok tt → (c : Credential) × (letter_of c ≡ l) × (fields_of c ≡ fs)
fitting_fields l fs n h = six_fields (λ gs. fitted (marks_of l) gs ≡ Ok tt → HasFields l gs) (λ a b c d e f. fitting l a b c d e f) fs n h

pub fields_of_made : (l : Letter) (fs : List (Option ℕ)) (c : Credential) → length fs ≡ 6 → credential_of l fs ≡ Ok c → (letter_of c ≡ l) × (fields_of c ≡ fs)
fields_of_made l fs c n e =
    let p = on_ok_lem (fitted (marks_of l) fs) (λ _. built_of l fs) c e in
    let q = fitting_fields l fs n p.1 in
    let d = made_of_fields q.0 in
    let ql = q.1 in let qf = q.2 in
    let same : q.0 ≡ c = cc in
    (ap letter_of (sym same) ∙ ql, ap fields_of (sym same) ∙ qf)

-- what the maker answers has the letter and the fields that it was given
pub made_has : (l : Letter) (fs : List (Option ℕ)) (r : Result Credential Refusal) → length fs ≡ 6 → answered r ≡ credential_of l fs
    → IfOk r (λ c. (letter_of c ≡ l) × (fields_of c ≡ fs))
made_has l fs (Ok c) n e = fields_of_made l fs c n (sym e)
made_has l fs (Err d) n e = tt
