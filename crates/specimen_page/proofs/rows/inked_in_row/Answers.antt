use Rattle.std.proofs.Common.{◌<◌, sym, ◌∙◌, arith}
use Rattle.specimen_page.specs.Rows.{inked_in}
use Rattle.specimen_page.proofs.Counts.{one_counted, none_counted, all_counted}
use Rattle.specimen_page.proofs.rows.inked_in_row.Goals as goal
use Rattle.specimen_page.proofs.rows.inked_in_row.Goals.{then-is_inked, else-is_inked}

pub loop-column-preserved : goal.loop-column-preserved
loop-column-preserved g c =
    let p = inked_in (g.S.Sheet.meaning c.args.sheet.now) c.args.row in
    let n = (g.S.Sheet.meaning c.args.sheet.now).side in
    let k = c.loop-column.column in
    let h : k < n = omega (arith, c.loop-column-test.true, c.loop-column.auto.column-end, c.pixels-column-end.ensures, c.side.ensures) in
    let i = c.loop-column.invariant in
    elim c.if-is_inked.branch [
      | then-is_inked w ↦ (omega (arith, i.0, w.count-is), omega (arith, i.1, w.count-is, one_counted p n k h (sym c.is_inked.ensures ∙ w.if-is_inked.true)))
      | else-is_inked w ↦ (omega (arith, i.0, w.count-is), omega (arith, i.1, w.count-is, none_counted p n k h (sym c.is_inked.ensures ∙ w.if-is_inked.false)))
    ]

pub returns-clause-value : goal.returns-clause-value
returns-clause-value g c =
    let p = inked_in (g.S.Sheet.meaning c.args.sheet.now) c.args.row in
    let n = (g.S.Sheet.meaning c.args.sheet.now).side in
    c.loop-column.invariant.1 ∙ all_counted p n c.loop-column.column (omega (arith, c.loop-column-test.false, c.loop-column.auto.column-end, c.pixels-column-end.ensures, c.side.ensures))
