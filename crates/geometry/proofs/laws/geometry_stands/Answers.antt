use Rattle.geometry.proofs.Quotients.{floors, ends}
use Rattle.geometry.proofs.laws.geometry_stands.Goals as goal

pub returns-clause-floor : goal.returns-clause-floor
returns-clause-floor c = floors

pub returns-clause-ends : goal.returns-clause-ends
returns-clause-ends c = ends
