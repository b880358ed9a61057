use Rattle.std.proofs.Common.{rules, ◌∙◌}
use Rattle.std.proofs.lemmas.Iterator.{YieldsList-from_slice}
use Rattle.std.proofs.lemmas.Iterator.Search.{any_from_yields_List}
use borrow.Author.Tests.{tests}
use Rattle.run.specs.Performing.{same_bytes}
use Rattle.calls.proofs.Places.{among_names}
use Rattle.calls.proofs.nesting.OpenNames.has.Goals as goal

pub returns : goal.returns
returns c =
    let o = c.args.self.now in
    let n = c.args.name.now in
    any_from_yields_List (λ x. same_bytes x.now n) _ _ _ c.any.ensures.ran (YieldsList-from_slice o.names.items cc) (λ x b q k. search (rules, tests)) ∙ among_names n o.names.items
