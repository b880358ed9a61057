use Rattle.std.proofs.Common.{◌≡◌, ◌++◌, Option, sym, ap, ◌∙◌, rules, of_calls}
use Rattle.std.specs.Option.{option_or}
use Rattle.statement.specs.declared.layout.Layout.{Layout}
use Rattle.wording.specs.Texts.{entry}
use Rattle.wording.specs.Words.{bare_names, travel_names, other_names}
use Rattle.wording.proofs.Tables.{entry_append}
use Rattle.wording.proofs.name.layout_named.Goals as goal

pub returns : goal.returns
returns c =
    let n = c.args.name.now in
    let in_two : c.or_else.result ≡ option_or c.bare_named.result (entry travel_names n) = search (rules, of_calls) in
    let in_three : c.or_else-2.result ≡ option_or c.or_else.result (entry other_names n) = search (rules, of_calls) in
    let last = λ (o : Option Layout). option_or o (entry other_names n) in
    in_three ∙ ap last (in_two ∙ ap (λ o. option_or o (entry travel_names n)) c.bare_named.ensures) ∙ sym (entry_append (bare_names ++ travel_names) other_names n ∙ ap last (entry_append bare_names travel_names n))
