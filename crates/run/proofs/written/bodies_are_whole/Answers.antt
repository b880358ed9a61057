use Rattle.run.proofs.Keeping.{bodies_whole}
use Rattle.run.proofs.written.bodies_are_whole.Goals as goal

pub returns : goal.returns
returns c = bodies_whole
