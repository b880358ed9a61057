use Rattle.std.proofs.Common.{◌≡◌, false, take}
use Rattle.mark.specs.Covers.{any_below, line_inks_at, letter_inks_at, rows_ink}
use Rattle.strokes.specs.Tables.{inked_by}
use Rattle.strokes.proofs.table.StrokeTableSheet.inked.Given as goal

-- the loop goes over the strokes that the table holds, and none so far inks the pixel
abbrev pub invariant-loop-stroke : goal.invariant-loop-stroke
invariant-loop-stroke l = (l.strokes ≡ take l.self.count l.self.strokes.now) × (inked_by l.self.side.pixels (take l.stroke-index l.strokes) l.pixel ≡ false)

-- no point of the line so far
abbrev pub invariant-loop-k : goal.invariant-loop-k
invariant-loop-k l = any_below (line_inks_at l.line.from l.line.to l.stroke.mode l.pixel) l.k ≡ false

-- no dot of the rows so far
abbrev pub invariant-loop-row : goal.invariant-loop-row
invariant-loop-row l = rows_ink l.letter.side.pixels l.letter.at l.letter.code l.pixel l.row ≡ false

-- no dot of the row so far
abbrev pub invariant-loop-column : goal.invariant-loop-column
invariant-loop-column l = any_below (letter_inks_at l.letter.side.pixels l.letter.at l.letter.code l.pixel l.row) l.column ≡ false
