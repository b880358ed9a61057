use Rattle.std.proofs.Common.{set, ap, ◌∙◌}
use Rattle.strokes.specs.Tables.{table_meaning}
use Rattle.strokes.proofs.Filling.{mark_more}
use Rattle.strokes.proofs.table.StrokeTableSheet.mark.Goals as goal

pub returns-clause-after : goal.returns-clause-after
returns-clause-after c =
    let t = c.args.self.now in
    let n = t.side.pixels in
    let ss = t.strokes.now in
    let p = c.push.ensures in
    (λ i. table_meaning (p.side i) (p.count i) ((p.strokes ∙ ap (set ss t.count) c.from.ensures) i)) ∙ mark_more n t.count ss c.args.mark c.if-self.false
