use Rattle.std.proofs.Common.{◌≡◌, ◌&&◌, drop}
use Rattle.sheet.specs.Meanings.{marked_all}
use Rattle.sheet.specs.Alike.{same_answers}
use Rattle.sheet.proofs.alike.draw_both.Given as goal

-- what is left of the marks gives the whole
abbrev pub invariant-loop-mark : goal.invariant-loop-mark
invariant-loop-mark g l =
    (marked_all (g.A.Sheet.meaning l.a) (drop l.mark-index l.marks) ≡ marked_all (g.A.Sheet.meaning l.initial.a) l.marks)
    × (marked_all (g.B.Sheet.meaning l.b) (drop l.mark-index l.marks) ≡ marked_all (g.B.Sheet.meaning l.initial.b) l.marks)
    × ((l.same && same_answers (g.A.Sheet.meaning l.a) (g.B.Sheet.meaning l.b) (drop l.mark-index l.marks)) ≡ same_answers (g.A.Sheet.meaning l.initial.a) (g.B.Sheet.meaning l.initial.b) l.marks)
    × (g.A.Sheet.tied l.a ≡ g.A.Sheet.tied l.initial.a) × (g.B.Sheet.tied l.b ≡ g.B.Sheet.tied l.initial.b)
