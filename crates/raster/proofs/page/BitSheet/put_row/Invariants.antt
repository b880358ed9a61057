use Rattle.mark.specs.Covers.{letter_inks_at}
use Rattle.raster.proofs.Inking.{SoFar}
use Rattle.raster.proofs.page.BitSheet.put_row.Given as goal

abbrev pub invariant-loop-column : goal.invariant-loop-column
invariant-loop-column l = SoFar l.initial.self (λ w. letter_inks_at l.letter.side.pixels l.letter.at l.letter.code w l.row) l.self l.column
