use Rattle.std.proofs.Common.{◌&&◌, ◌||◌, ℤ, sym, ap, ◌∙◌}
use Rattle.mark.specs.declared.Mark.{Mark}
use Rattle.mark.specs.Covers.{reaches, on_sheet, same_pixel, line_inks}
use Rattle.raster.specs.Bits.{inked_at}
use Rattle.raster.proofs.Inking.{page_gains}
use Rattle.raster.proofs.page.BitSheet.put_mark.Goals as goal

pub returns-in-Dot-clause-after : goal.returns-in-Dot-clause-after
returns-in-Dot-clause-after c =
    let t = c.args.self.now in
    let n = t.side.pixels in
    page_gains n _ t.bytes.now _ c.args.mark c.put.ensures.0 (λ w.
    c.put.ensures.2 w
    ∙ ap (λ (p : ℤ × ℤ). inked_at n t.bytes.now w || (on_sheet n w && same_pixel p w)) c.pixel_of.ensures
    ∙ ap (λ (m : Mark). inked_at n t.bytes.now w || (on_sheet n w && reaches n m w)) (sym c.in-Dot.is))

pub returns-in-Line-clause-after : goal.returns-in-Line-clause-after
returns-in-Line-clause-after c =
    let t = c.args.self.now in
    let n = t.side.pixels in
    let l = c.between.ensures in
    page_gains n _ t.bytes.now _ c.args.mark c.put_line.ensures.0 (λ w.
    c.put_line.ensures.2 w
    ∙ (λ i. inked_at n t.bytes.now w || (on_sheet n w && line_inks (l.from i) (l.to i) c.in-Line.mode w))
    ∙ ap (λ (m : Mark). inked_at n t.bytes.now w || (on_sheet n w && reaches n m w)) (sym c.in-Line.is))

pub returns-in-Letter-clause-after : goal.returns-in-Letter-clause-after
returns-in-Letter-clause-after c =
    let t = c.args.self.now in
    let n = t.side.pixels in
    page_gains n _ t.bytes.now _ c.args.mark c.put_letter.ensures.0 (λ w.
    c.put_letter.ensures.2 w
    ∙ ap (λ (m : Mark). inked_at n t.bytes.now w || (on_sheet n w && reaches n m w)) (sym c.in-Letter.is))
