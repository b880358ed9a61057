use Rattle.std.proofs.Common.{false, true, take, sym, arith}
use Rattle.mark.proofs.Any.{none_more, none_end}
use Rattle.strokes.specs.Strokes.{no_stroke}
use Rattle.strokes.proofs.Inking.{inked_off, inked_none, inked_found}
use Rattle.strokes.proofs.Reaching.{dot_is, line_reaches, line_misses, letter_reaches, letter_misses}
use Rattle.strokes.proofs.table.StrokeTableSheet.inked.Goals as goal
use Rattle.strokes.proofs.table.StrokeTableSheet.inked.Goals.{in-Dot+else-dot_inks, in-Line+else-loop-k-test, in-Letter+else-loop-row-test}

pub returns-then-not-on_sheet-clause-value : goal.returns-then-not-on_sheet-clause-value
returns-then-not-on_sheet-clause-value c =
    let t = c.args.self.now in
    sym (inked_off t.side.pixels (take t.count t.strokes.now) c.args.pixel (sym c.if-not-on_sheet.ensures))

pub loop-k-preserved : goal.loop-k-preserved
loop-k-preserved c = none_more _ c.loop-k.k c.loop-k.invariant (sym c.if-line_inks.ensures)

pub loop-column-preserved : goal.loop-column-preserved
loop-column-preserved c = none_more _ c.loop-column.column c.loop-column.invariant (sym c.if-inks.ensures)

pub loop-row-preserved : goal.loop-row-preserved
loop-row-preserved c =
    none_more _ c.loop-row.row c.loop-row.invariant
    (none_end _ 5 c.loop-column.column c.loop-column.auto.column-end c.loop-column-test.false c.loop-column.invariant)

pub loop-stroke-preserved : goal.loop-stroke-preserved
loop-stroke-preserved c =
    let n = c.args.self.now.side.pixels in
    let z = c.args.pixel in (
      c.loop-stroke.invariant.0,
      inked_none n c.loop-stroke.stroke-index _ no_stroke z c.loop-stroke-test.true c.loop-stroke.invariant.1
          (elim c.match-stroke.branch [
            | in-Dot+else-dot_inks w ↦ dot_is n _ z false w.in-Dot.is (sym w.if-dot_inks.ensures)
            | in-Line+else-loop-k-test w ↦
                let line = w.between-line.result in
                line_misses n _ z line.from line.to w.loop-k.k w.in-Line.is w.between-line.ensures.from w.between-line.ensures.to
                (omega (arith, w.loop-k.auto.k-end, w.loop-k-test.false, w.points-k-end.ensures)) w.loop-k.invariant
            | in-Letter+else-loop-row-test w ↦ letter_misses n _ z w.loop-row.row w.in-Letter.is (omega (arith, w.loop-row.auto.row-end, w.loop-row-test.false)) w.loop-row.invariant
          ]),
    )

pub returns-then-dot_inks-clause-value : goal.returns-then-dot_inks-clause-value
returns-then-dot_inks-clause-value c =
    let n = c.args.self.now.side.pixels in
    inked_found n c.loop-stroke.stroke-index _ _ no_stroke c.args.pixel c.loop-stroke.invariant.0 c.loop-stroke-test.true (sym c.if-not-on_sheet.ensures)
    (dot_is n _ c.args.pixel true c.in-Dot.is (sym c.if-dot_inks.ensures))

pub returns-then-line_inks-clause-value : goal.returns-then-line_inks-clause-value
returns-then-line_inks-clause-value c =
    let n = c.args.self.now.side.pixels in
    let line = c.between-line.result in
    inked_found n c.loop-stroke.stroke-index _ _ no_stroke c.args.pixel c.loop-stroke.invariant.0 c.loop-stroke-test.true (sym c.if-not-on_sheet.ensures)
    (line_reaches n _ c.args.pixel line.from line.to c.loop-k.k c.in-Line.is c.between-line.ensures.from c.between-line.ensures.to
    (omega (arith, c.loop-k-test.true, c.points-k-end.ensures)) (sym c.if-line_inks.ensures))

pub returns-then-inks-clause-value : goal.returns-then-inks-clause-value
returns-then-inks-clause-value c =
    let n = c.args.self.now.side.pixels in
    inked_found n c.loop-stroke.stroke-index _ _ no_stroke c.args.pixel c.loop-stroke.invariant.0 c.loop-stroke-test.true (sym c.if-not-on_sheet.ensures)
    (letter_reaches n _ c.args.pixel c.loop-row.row c.loop-column.column c.in-Letter.is c.loop-row-test.true c.loop-column-test.true (sym c.if-inks.ensures))
