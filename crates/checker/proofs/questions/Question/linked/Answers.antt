use Rattle.std.proofs.Common.{◌+◌, ◌-◌, ap, rules}
use borrow.Author.Tests.{tests}
use Rattle.std.specs.List.{range_with_len}
use Rattle.std.proofs.lemmas.Iterator.Consumers.{YieldsList-from_first}
use Rattle.std.proofs.lemmas.Iterator.Search.{any_from_yields_List}
use Rattle.credential.specs.Numbers.{Entity}
use Rattle.model.specs.Grounds.{everyone}
use Rattle.checker.specs.Questions.{links}
use Rattle.checker.proofs.questions.Question.linked.Goals as goal

pub returns : goal.returns
unfolding everyone
returns c =
    any_from_yields_List (links c.args.self c.args.first c.args.second) c.any.new.self _ _ c.any.ensures.ran
    (YieldsList-from_first (λ (n : Entity). n.number) (λ s. range_with_len (s.given + 1) (32 - s.given)) (range_with_len 1 32) (ap (λ k. range_with_len (k + 1) (32 - k)) c.all.ensures))
    (λ x b f k. search (rules, tests))
