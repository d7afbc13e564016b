use Rattle.checker.proofs.Readings.{lawful_if_none, list_read}
use Rattle.checker.proofs.tables.Tables.new.Goals as goal

pub invariant_of-result : goal.invariant_of-result
invariant_of-result c =
    let vs = c.in_ok-verdicts.verdicts.now in
    let ms = c.in_ok-numbers.numbers.now in
    record { lawful = lawful_if_none vs ms (list_read _ vs c.in_ok-verdicts.ensures) (list_read _ ms c.in_ok-numbers.ensures) c.in-None.ensures }
