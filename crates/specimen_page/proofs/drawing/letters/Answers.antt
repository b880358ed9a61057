use Rattle.std.proofs.Common.{rules, tests, arith}
use Rattle.std.proofs.lemmas.List.FromFn.{fill_by_all}
use Rattle.specimen_page.specs.Specimens.{letter_at, all_letters}
use Rattle.specimen_page.proofs.Chains.{made}
use Rattle.specimen_page.proofs.drawing.letters.Goals as goal

pub returns : goal.returns
unfolding all_letters
returns c =
    let is = c.from_fn.ensures.items in
    fill_by_all letter_at c.from_fn.result 95 (letter_at 0) is.long
    (λ k h. made _ _ letter_at c.from_fn.result (letter_at 0) 0 95 is.each (λ k y q l m. search (rules, tests)) k (omega arith) (omega arith))
