use Rattle.std.proofs.Common.{ap, ◌∙◌, rules}
use Rattle.run.specs.Runs.{begun}
use Rattle.pen.proofs.types.Pen.erase.Goals as goal

pub returns-clause-after : goal.returns-clause-after
returns-clause-after g c = c.new.ensures _ ∙ ap (λ m. (begun m).drawing.ink) (search rules)
