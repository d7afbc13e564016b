use Rattle.history.proofs.Keeping.{making_keeps, calls_keep}
use Rattle.history.proofs.Reading.{contents_say}
use Rattle.history.proofs.Judging.{steps_keep}
use Rattle.history.proofs.contents_hold.Goals as goal

pub returns : goal.returns
returns c = record { making = making_keeps; calls = calls_keep; words = contents_say; steps = steps_keep }
