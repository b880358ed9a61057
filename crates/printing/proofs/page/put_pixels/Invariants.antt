use Rattle.std.proofs.Common.{◌≡◌, ℕ, ◌<◌, get_or}
use Rattle.printing.specs.Pages.{pixel_text}
use Rattle.printing.proofs.page.put_pixels.Given as goal

abbrev pub invariant-loop-column : goal.invariant-loop-column
invariant-loop-column g l = (k : ℕ) → k < l.column → get_or l.out k 0 ≡ pixel_text (g.S.Sheet.meaning l.sheet) l.row k
