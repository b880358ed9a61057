use Rattle.std.proofs.Common.{sym, ◌∙◌}
use Rattle.std.proofs.lemmas.Result.{err_from_is_err_and}
use Rattle.pen.specs.Views.{lit}
use Rattle.pen.proofs.Letters.{controls, sets, stops}
use Rattle.pen.proofs.codes.set_code.Goals as goal

pub returns-then-not-is_printed-clause-after : goal.returns-then-not-is_printed-clause-after
returns-then-not-is_printed-clause-after g c i =
    let a = lit i c.args.beam.now c.args.intensity (g.S.Sheet.meaning c.args.sheet.now) in
    c.obey_control.ensures a ∙ controls c.args.manner c.args.code a (sym c.is_printed.ensures ∙ c.if-not-is_printed.true)

pub returns-in_err-break_line-clause-after : goal.returns-in_err-break_line-clause-after
returns-in_err-break_line-clause-after g c i =
    let p = err_from_is_err_and c.from_residual.result c.from_residual.ensures.1 in
    let a = lit i c.args.beam.now c.args.intensity (g.S.Sheet.meaning c.args.sheet.now) in
    rw (p.1, p.2) (stops c.args.manner c.args.code a (sym c.is_printed.ensures ∙ c.if-not-is_printed.false) (c.in_err-break_line.ensures a))

pub returns-clause-after : goal.returns-clause-after
returns-clause-after g c i =
    let a = lit i c.args.beam.now c.args.intensity (g.S.Sheet.meaning c.args.sheet.now) in
    let b = lit i c.break_line.new.beam c.args.intensity (g.S.Sheet.meaning c.args.sheet.now) in
    sets c.args.manner c.args.code a b (sym c.is_printed.ensures ∙ c.if-not-is_printed.false) (c.in_ok-break_line.ensures a) (c.set_letter.ensures.after i)
