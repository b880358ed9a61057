use Rattle.play.proofs.cutting.finish_run.Goals as goal

pub returns-clause-report : goal.returns-clause-report
returns-clause-report g c = c.report.ensures (g.S.Sheet.meaning c.args.sheet.now)
