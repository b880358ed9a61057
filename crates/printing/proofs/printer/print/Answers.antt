use Rattle.std.proofs.Common.{rules}
use Rattle.printing.specs.Pages.{page_text}
use Rattle.printing.specs.Reports.{report_line}
use Rattle.printing.proofs.Whole.{whole_laid}
use Rattle.printing.proofs.printer.print.Goals as goal

pub returns-clause-bytes : goal.returns-clause-bytes
returns-clause-bytes g c =
    let page = page_text (g.S.Sheet.meaning c.args.sheet.now) in
    let line = report_line c.args.report.now in
    whole_laid page line _ _ c.args.out.now c.page_room-page.result c.len.result (search rules) (search rules) (search rules) (search rules) (search rules)
