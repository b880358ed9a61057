use Rattle.run.proofs.Restates.{restates_alike}
use Rattle.run.proofs.laws.restating_changes_nothing.Goals as goal

pub returns : goal.returns
returns c = restates_alike
