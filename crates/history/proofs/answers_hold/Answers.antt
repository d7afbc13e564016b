use Rattle.history.proofs.Asked.{numbers_tell}
use Rattle.history.proofs.Offers.{tables_model}
use Rattle.history.proofs.Unique.{one_answer, filled_is_adopted}
use Rattle.history.proofs.Total.{some_answer}
use Rattle.history.proofs.Following.{offers_follow, refusals_follow}
use Rattle.history.proofs.answers_hold.Goals as goal

pub returns : goal.returns
returns c =
    record {
      numbers = numbers_tell;
      one = one_answer;
      some = some_answer;
      offers = offers_follow;
      refusals = refusals_follow;
      tables = tables_model;
      vaults = filled_is_adopted;
    }
