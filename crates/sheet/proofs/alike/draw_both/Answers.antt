use Rattle.std.proofs.Common.{sym, ◌∙◌, subst}
use Rattle.sheet.specs.Meanings.{Meaning, marked_all}
use Rattle.sheet.specs.Alike.{Alike}
use Rattle.sheet.proofs.Twins.{alike_answers, alike_marked, marked_end, answers_end}
use Rattle.sheet.proofs.alike.draw_both.Goals as goal

pub returns-clause-alike : goal.returns-clause-alike
returns-clause-alike g c t =
    let ms = c.args.marks.now in
    let i = c.loop-mark.mark-index in
    let h = c.loop-mark-test.false in
    let a = g.A.Sheet.meaning c.args.a.now in
    let b = g.B.Sheet.meaning c.args.b.now in
    let first = marked_end ms i _ _ h c.loop-mark.invariant.0 in
    let second = marked_end ms i _ _ h c.loop-mark.invariant.1 in (
      subst (λ (x : Meaning). Alike x (g.B.Sheet.meaning c.loop-mark.b)) (sym first)
          (subst (λ (y : Meaning). Alike (marked_all a ms) y) (sym second) (alike_marked a b ms t)),
      answers_end ms i _ _ c.loop-mark.same _ h c.loop-mark.invariant.2 ∙ alike_answers a b ms t,
    )
