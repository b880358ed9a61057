use Rattle.mark.specs.Covers.{line_inks_at}
use Rattle.raster.proofs.Inking.{SoFar}
use Rattle.raster.proofs.page.BitSheet.put_line.Given as goal

abbrev pub invariant-loop-k : goal.invariant-loop-k
invariant-loop-k l = SoFar l.initial.self (line_inks_at l.line.from l.line.to l.mode) l.self l.k
