use Rattle.std.proofs.Common.{◌≡◌, ◌∙◌, rules}
use Rattle.wording.proofs.Decimal.{not_utf8, parsed}
use Rattle.wording.proofs.number.number_in.Goals as goal

pub returns-in_err-ok : goal.returns-in_err-ok
returns-in_err-ok c =
    let u = not_utf8 c.args.text.now in
    search (rules, u)

pub returns : goal.returns
returns c =
    let is : c.in_ok-ok.field-0.now ≡ c.args.text.now = search rules in
    c.ok-2.ensures.value ∙ parsed c.args.text.now c.parse.result (search rules) (search rules) (rw is at c.parse.ensures.value.0)
