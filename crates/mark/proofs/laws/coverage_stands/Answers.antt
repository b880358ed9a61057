use Rattle.mark.proofs.Rules.{rules}
use Rattle.mark.proofs.laws.coverage_stands.Goals as goal

pub returns : goal.returns
returns c = rules
