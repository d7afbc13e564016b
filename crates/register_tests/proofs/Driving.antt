-- Carrying out calls one after another.
use Rattle.std.proofs.Common.{◌≡◌, ℕ, ◌+◌, ◌<◌, ◌≤◌, List, [], ◌∷◌, ◌++◌, length, get_or, drop, map, Result, sym, ap, ◌∙◌}
use Rattle.std.proofs.lemmas.List.{drop_more, drop_all, map-append}
use Rattle.credential.specs.declared.credentials.Credential.{Credential}
use Rattle.credential.specs.declared.refusals.Refusal.{Refusal}
use Rattle.credential.specs.Refusals.{answered}
use Rattle.register_tests.specs.declared.Call.{Call}
use Rattle.register_tests.specs.Calls.{called, Driven, driven_by, driven}

-- what a driver holds: the answers so far, and the list
abbrev pub held : List (Result (Unit {0}) Refusal) → List Credential → Driven
held us xs = record { answers = map answered us; list = xs }

module _ (limit : ℕ) (calls : List Call) (i : ℕ) where
  pub driven_more : (us bs : List (Result (Unit {0}) Refusal)) (xs ys : List Credential) (call : Call) (r : Result (Unit {0}) Refusal) → i < length calls → call ≡ get_or calls i call
      → answered r ≡ (called limit xs call).answer → bs ≡ us ++ r ∷ [] → ys ≡ (called limit xs call).list
      → driven limit (held us xs) (drop i calls) ≡ driven limit (held bs ys) (drop (i + 1) calls)
  unfolding driven
  driven_more us bs xs ys call r h c a s l =
      let answers : map answered us ++ (called limit xs call).answer ∷ [] ≡ map answered bs = ap (λ q. map answered us ++ q ∷ []) (sym a) ∙ sym (map-append answered us (r ∷ [])) ∙ ap (map answered) (sym s) in
      let q : driven_by limit (held us xs) call ≡ held bs ys = λ j. record { answers = answers j; list = sym l j } in
      ap (λ (rest : List Call). driven limit (held us xs) rest) (drop_more calls i call h)
      ∙ ap (λ (c : Call). driven limit (driven_by limit (held us xs) c) (drop (i + 1) calls)) (sym c)
      ∙ ap (λ (f : Driven). driven limit f (drop (i + 1) calls)) q

  pub driven-all : (d : Driven) → length calls ≤ i → driven limit d (drop i calls) ≡ d
  unfolding driven
  driven-all d h = ap (λ (rest : List Call). driven limit d rest) (drop_all i calls h)
