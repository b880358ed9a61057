use Rattle.std.proofs.Common.{◌≡◌, ap, ◌∙◌, rules}
use Rattle.sheet.specs.Meanings.{Meaning}
use Rattle.raster.specs.Bits.{bit_meaning}
use Rattle.run.specs.Runs.{Config, run, finish, report_of, begun}
use Rattle.reader.specs.Views.{config_of}
use Rattle.play.specs.Plays.{New}
use Rattle.job.specs.Jobs.{drawing}
use Rattle.exported.proofs.Pages.{page_kept, spare_kept}
use Rattle.exported.proofs.page_call.draw_on.Goals as goal

pub returns : goal.returns
returns c =
    let n = c.args.side in
    let bs = c.args.stream.now in
    let t = c.make-sheet.result in
    let s = c.play_even.new.sheet in
    let last : Config = config_of c.play_even.new.reader (bit_meaning s.side.pixels s.bytes.now) in
    let drawn : New c.args.reader.now → last ≡ drawing n bs = λ new.
    c.play_even.ensures.after ∙ ap (λ (z : Config). finish (run z bs)) (new (bit_meaning t.side.pixels t.bytes.now))
    ∙ ap (λ (m : Meaning). finish (run (begun m) bs)) c.make-sheet.ensures.blank in
    record {
      report = λ new. c.play_even.ensures.report ∙ ap report_of (drawn new);
      page = λ new.
          page_kept n s.side.pixels c.args.memory.now s.bytes.now _ c.requires s.whole (search rules) (search rules) _
          (ap (λ (z : Config). z.drawing.ink.sheet) (drawn new));
      spare = spare_kept n s.side.pixels c.args.memory.now s.bytes.now _ c.requires s.whole (search rules) (search rules) s.spare;
    }
