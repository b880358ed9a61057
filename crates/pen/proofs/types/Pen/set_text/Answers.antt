use Rattle.pen.specs.Views.{ink_of}
use Rattle.pen.proofs.types.Pen.set_text.Goals as goal

pub returns-clause-after : goal.returns-clause-after
returns-clause-after g c = c.set_codes.ensures.after (ink_of c.args.self.now (g.S.Sheet.meaning c.args.sheet.now))
