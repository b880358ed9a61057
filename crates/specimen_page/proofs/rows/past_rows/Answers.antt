use Rattle.std.proofs.Common.{◌-◌, ◌∙◌, rules, tests, arith}
use Rattle.std.specs.List.{find}
use Rattle.specimen_page.specs.Rows.{bears_ink}
use Rattle.specimen_page.proofs.Chains.{countdown, none_after, last_found}
use Rattle.specimen_page.proofs.rows.past_rows.Goals as goal

pub returns-clause-after : goal.returns-clause-after
returns-clause-after g c k low high =
    let test = bears_ink (g.S.Sheet.meaning c.args.sheet.now) in
    let whole = c.rev.ensures.source in
    none_after test (c.pixels.result - 0) c.find-last.result
    (last_found test c.rev.result _ _ c.find-last.result c.find-last.ensures.ran (λ x b q k. search (rules, tests)) ∙ (λ i. find test (countdown (whole i).start ((whole i).end - (whole i).start))))
    _ (search (rules, tests)) k low (omega (arith, high, c.pixels.ensures, c.side.ensures))
