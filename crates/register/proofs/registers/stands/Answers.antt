use Rattle.std.proofs.Common.{◌≡◌, ◌≢◌, drop, Decides, rules, tests}
use Rattle.std.proofs.lemmas.Bool.Decides.{same_from_decides}
use Rattle.std.proofs.lemmas.Iterator.{cases_from_any}
use Rattle.std.proofs.lemmas.Iterator.Consumers.{YieldsList-from_first}
use Rattle.std.specs.List.{ContainsAt as Has}
use Rattle.register.proofs.Equality.{same_decides, stands_decides, found_decides}
use Rattle.register.proofs.registers.stands.Goals as goal

pub returns : goal.returns
returns g c =
    let xs = g.S.Source.list c.args.source.now in
    let d : Decides c.any.result (Has xs c.args.credential) =
    found_decides c.any.result xs c.args.credential
    (cases_from_any c.any.new.self _ c.any.result (λ x. x ≡ c.args.credential) (λ x. x ≢ c.args.credential) c.any.ensures.ran
    (YieldsList-from_first (λ x. x) (λ s. drop s.given (g.S.Source.list s.source.now)) xs (search rules))
    (λ x q k. search (rules, tests, same_decides)) (λ x q k. search (rules, tests, same_decides))) in
    record { value = same_from_decides _ _ d (stands_decides xs c.args.credential); decides = d }
