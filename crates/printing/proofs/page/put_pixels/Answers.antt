use Rattle.std.proofs.Common.{arith}
use Rattle.std.proofs.lemmas.List.FromFn.{fill_by_all}
use Rattle.printing.specs.Pages.{pixel_text}
use Rattle.printing.proofs.page.put_pixels.Goals as goal

pub returns : goal.returns
returns g c =
    let m = g.S.Sheet.meaning c.args.sheet.now in
    let kept = c.loop-column.auto.out in
    let whole = c.requires.whole in
    let past = c.loop-column-test.false in
    fill_by_all (pixel_text m c.args.row) c.loop-column.out m.side 0 (omega arith) (λ k h. c.loop-column.invariant k (omega arith))
