use Rattle.std.proofs.Common.{ap}
use Rattle.run.specs.Inks.{good}
use Rattle.pen.proofs.types.Pen.perform_plain.Goals as goal

pub returns-in-Linmod-clause-after : goal.returns-in-Linmod-clause-after
returns-in-Linmod-clause-after g c = rw c.in-Linmod.is (ap good (c.assign.ensures _))

pub returns-in-Setint-clause-after : goal.returns-in-Setint-clause-after
returns-in-Setint-clause-after g c = rw c.in-Setint.is (ap good (c.assign-in-Setint.ensures _))
