use Rattle.std.proofs.Common.{rules, tests, arith}
use Rattle.specimen_page.specs.Rows.{inked_in, shown_as}
use Rattle.specimen_page.proofs.Chains.{made}
use Rattle.specimen_page.proofs.rows.row_text.Goals as goal

pub returns : goal.returns
returns g c k h =
    let a = g.S.Sheet.meaning c.args.sheet.now in
    made _ _ (λ k. shown_as (inked_in a c.args.row k)) c.from_fn.result 0 0 512 c.from_fn.ensures.items.each (λ k y q l m. search (rules, tests)) k (omega arith) (omega arith)
