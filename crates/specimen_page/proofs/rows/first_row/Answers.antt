use Rattle.std.proofs.Common.{◌≡◌, true, false, rules, tests, arith}
use Rattle.std.proofs.lemmas.Iterator.{first_from_Range}
use Rattle.specimen_page.specs.Rows.{bears_ink}
use Rattle.specimen_page.proofs.Chains.{none_before}
use Rattle.specimen_page.proofs.rows.first_row.Goals as goal

pub returns-clause-before : goal.returns-clause-before
returns-clause-before g c =
    let a = g.S.Sheet.meaning c.args.sheet.now in
    none_before c.find.result _ c.pixels-end.result _ (λ k. bears_ink a k ≡ true) (λ k. bears_ink a k ≡ false) (omega arith)
    (first_from_Range _ _ _ c.find.result (λ k. bears_ink a k ≡ true) (λ k. bears_ink a k ≡ false) c.find.ensures.ran (λ x q k. search (rules, tests)) (λ x q k. search (rules, tests)))
    c.unwrap_or.ensures
