-- Tried with `using` on the function: the search does not apply a lemma whose end is a record or several equations.
use Rattle.spelling.proofs.Spelt.{spelt_once}
use Rattle.spelling.proofs.laws.spelling_is_one.Goals as goal

pub returns : goal.returns
returns c = spelt_once
