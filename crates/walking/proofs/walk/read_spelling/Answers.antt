use Rattle.walking.proofs.Steps.{bytes_typed, begins_with}
use Rattle.walking.proofs.walk.read_spelling.Goals as goal

pub returns-clause-spelt : goal.returns-clause-spelt
returns-clause-spelt c = begins_with _ _ _ (bytes_typed _ c.type_inv.bytes) c.read.ensures.value
