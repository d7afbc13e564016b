use Rattle.cases.proofs.Worked.{cases_hold}
use Rattle.cases.proofs.worked_cases.Goals as goal

pub returns-clause-hold : goal.returns-clause-hold
returns-clause-hold c = cases_hold
