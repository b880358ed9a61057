use Rattle.font.proofs.Shapes.{lawful}
use Rattle.font.proofs.lettering_is_lawful.Goals as goal

pub returns-clause-rules : goal.returns-clause-rules
returns-clause-rules c = lawful
