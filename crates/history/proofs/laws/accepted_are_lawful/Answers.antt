use Rattle.history.proofs.Accepts.{accepts_lawful}
use Rattle.history.proofs.laws.accepted_are_lawful.Goals as goal

pub returns : goal.returns
returns c = accepts_lawful
