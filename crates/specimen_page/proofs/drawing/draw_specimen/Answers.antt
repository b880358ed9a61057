use Rattle.std.proofs.Common.{◌≡◌, List, ◌++◌, ap, ◌∙◌}
use Rattle.std.specs.List.{flat_map}
use Rattle.mark.specs.declared.Mark.{Mark}
use Rattle.specimen_page.specs.Specimens.{frames_of, dot_row, all_letters, specimen_marks}
use Rattle.specimen_page.proofs.Turns.{drawn_as_lem, drawn_both}
use Rattle.specimen_page.proofs.drawing.draw_specimen.Goals as goal

pub returns : goal.returns
unfolding frames_of specimen_marks
returns g c =
    let meaning = g.S.Sheet.meaning in
    let a = meaning c.args.sheet.now in
    let p = meaning c.draw-frames.new.sheet in
    let q = meaning c.draw-dots.new.sheet in
    let r = meaning c.draw-letters.new.sheet in
    let x = c.draw-frames.ensures in
    let y = c.draw-dots.ensures in
    let z = c.draw-letters.ensures in
    let sides : c.as_flattened.result.now ≡ frames_of = c.as_flattened.ensures.value ∙ ap (flat_map (λ (m : List Mark). m)) c.frames.ensures in
    let frames = drawn_as_lem a p _ frames_of c.draw-frames.result sides (x.after, x.answer) in
    let dots = drawn_as_lem p q _ dot_row c.draw-dots.result c.dots.ensures (y.after, y.answer) in
    let letters = drawn_as_lem q r _ all_letters c.draw-letters.result c.letters.ensures (z.after, z.answer) in
    let d = drawn_both a q r (frames_of ++ dot_row) all_letters _ c.draw-letters.result
    (drawn_both a p q frames_of dot_row c.draw-frames.result c.draw-dots.result frames dots) letters in
    record { answer = d.1; after = d.0; tied = z.tied ∙ y.tied ∙ x.tied }
