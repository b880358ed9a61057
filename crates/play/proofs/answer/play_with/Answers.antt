use Rattle.std.proofs.Common.{◌≡◌, fold, ap, ◌∙◌}
use Rattle.run.specs.Runs.{report_of}
use Rattle.run.specs.Cuttings.{answering, played}
use Rattle.reader.specs.Views.{config_of}
use Rattle.play.specs.Plays.{calls_of, New}
use Rattle.play.proofs.Ends.{ends_as}
use Rattle.play.proofs.answer.play_with.Goals as goal

pub returns-clause-played : goal.returns-clause-played
returns-clause-played g c =
    let m = g.S.Sheet.meaning c.args.sheet.now in
    let n = g.S.Sheet.meaning c.answer_all.new.sheet in
    let ks = c.args.calls.now in
    let e : New c.args.reader.now → config_of c.answer_all.new.reader n ≡ played m (calls_of ks) = λ new. c.answer_all.ensures.after ∙ ap (λ z. fold answering z (calls_of ks)) (new m) in
    λ new. ends_as m n ks c.report.result (record { sheet = ap (λ z. z.drawing.ink.sheet) (e new); report = c.report.ensures n ∙ ap report_of (e new) })

pub returns-clause-report : goal.returns-clause-report
returns-clause-report g c = c.report.ensures (g.S.Sheet.meaning c.answer_all.new.sheet)
