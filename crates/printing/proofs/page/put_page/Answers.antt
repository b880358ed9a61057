use Rattle.std.proofs.Common.{◌+◌, ◌*◌, ◌<◌, ◌≤◌, length, ap, ◌∙◌, arith, rules}
use Rattle.printing.proofs.Rows.{row_fits, row_laid}
use Rattle.printing.proofs.page.put_page.Goals as goal

pub slice_bounds-put_row-end : goal.slice_bounds-put_row-end
slice_bounds-put_row-end g c =
    let m = g.S.Sheet.meaning c.args.sheet.now in
    let kept = c.loop-row.auto.out in
    let within : c.loop-row.row < c.pixels-side.result = omega (arith, c.loop-row-test.true) in
    let fits = row_fits m c.loop-row.row c.pixels-side.result (c.pixels-side.ensures ∙ c.side.ensures) within in
    let whole = c.requires in
    let bound : c.loop-row.row * (c.pixels-side.result + 1) + (c.pixels-side.result + 1) ≤ length c.loop-row.out = omega arith in
    search rules

pub loop-row-preserved : goal.loop-row-preserved
loop-row-preserved g c =
    let m = g.S.Sheet.meaning c.args.sheet.now in
    let kept = c.loop-row.auto.out in
    let whole = c.requires in
    let side = c.pixels-side.ensures ∙ c.side.ensures in
    let within : c.loop-row.row < c.pixels-side.result = omega (arith, c.loop-row-test.true) in
    let fits = row_fits m c.loop-row.row c.pixels-side.result side within in
    let above : c.loop-row.row * (c.pixels-side.result + 1) ≤ length c.loop-row.out = omega arith in
    row_laid m c.loop-row.out c.put_row.new.out c.loop-row.row (c.pixels-side.result + 1) _ (ap (λ n. n + 1) side) above c.put_row.ensures c.loop-row.invariant
