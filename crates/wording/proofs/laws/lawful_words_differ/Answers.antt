use Rattle.wording.proofs.Whole.{lawful_apart}
use Rattle.wording.proofs.laws.lawful_words_differ.Goals as goal

pub returns : goal.returns
returns c = lawful_apart
