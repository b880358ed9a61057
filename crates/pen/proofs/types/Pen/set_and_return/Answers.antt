use Rattle.std.proofs.Common.{ap}
use Rattle.run.specs.Texts.{restored}
use Rattle.pen.specs.Views.{ink_of}
use Rattle.pen.proofs.types.Pen.set_and_return.Goals as goal

pub returns-clause-after : goal.returns-clause-after
returns-clause-after g c =
    rw c.drop-guard.ensures (ap (restored c.args.self.now.beam) (c.set_codes.ensures.after (ink_of c.args.self.now (g.S.Sheet.meaning c.args.sheet.now))))
