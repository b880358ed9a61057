use Rattle.std.proofs.Common.{◌≡◌, ◌&&◌, drop}
use Rattle.sheet.specs.Meanings.{marked_all, takes_all}
use Rattle.sheet.proofs.alike.draw.Given as goal

-- what is left of the marks gives the whole
abbrev pub invariant-loop-mark : goal.invariant-loop-mark
invariant-loop-mark g l =
    (marked_all (g.S.Sheet.meaning l.sheet) (drop l.mark-index l.marks) ≡ marked_all (g.S.Sheet.meaning l.initial.sheet) l.marks)
    × (g.S.Sheet.tied l.sheet ≡ g.S.Sheet.tied l.initial.sheet)
    × ((l.taken && takes_all (g.S.Sheet.meaning l.sheet) (drop l.mark-index l.marks)) ≡ takes_all (g.S.Sheet.meaning l.initial.sheet) l.marks)
