use Rattle.mark.specs.Covers.{any_below, letter_inks_at}
use Rattle.raster.proofs.Inking.{SoFar}
use Rattle.raster.proofs.page.BitSheet.put_letter.Given as goal

abbrev pub invariant-loop-row : goal.invariant-loop-row
invariant-loop-row l = SoFar l.initial.self (λ w row. any_below (letter_inks_at l.letter.side.pixels l.letter.at l.letter.code w row) 5) l.self l.row
