use Rattle.std.proofs.Common.{◌≡◌, ◌*◌, take}
use Rattle.printing.specs.Pages.{rows_text}
use Rattle.printing.proofs.page.put_page.Given as goal

abbrev pub invariant-loop-row : goal.invariant-loop-row
invariant-loop-row g l = take (l.row * l.width) l.out ≡ rows_text (g.S.Sheet.meaning l.sheet) l.row
