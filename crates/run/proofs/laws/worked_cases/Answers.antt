use Rattle.run.proofs.Worked.{worked}
use Rattle.run.proofs.laws.worked_cases.Goals as goal

pub returns : goal.returns
returns c = worked
