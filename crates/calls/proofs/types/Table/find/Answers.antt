use Rattle.std.proofs.Common.{rules, ◌∙◌, vec_items}
use Rattle.std.proofs.lemmas.Iterator.{YieldsList-from_slice}
use Rattle.std.proofs.lemmas.Iterator.Search.{position_from_yields_List}
use borrow.Author.Tests.{tests}
use Rattle.run.specs.Performing.{same_bytes}
use Rattle.calls.specs.Tables.{letters_of}
use Rattle.calls.proofs.Places.{place_of}
use Rattle.calls.proofs.types.Table.find.Goals as goal

pub returns-clause-value : goal.returns-clause-value
returns-clause-value c =
    let es = vec_items c.args.self.now.entries in
    let n = c.args.label.now in
    position_from_yields_List (λ e. same_bytes (letters_of e.name) n) _ _ _ c.position.ensures.ran (YieldsList-from_slice es cc) (λ x b q k. search (rules, tests)) ∙ place_of n es
