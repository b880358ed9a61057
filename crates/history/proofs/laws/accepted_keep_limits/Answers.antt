use Rattle.history.proofs.Accepts.{accepts_within_limits}
use Rattle.history.proofs.laws.accepted_keep_limits.Goals as goal

pub returns : goal.returns
returns c = accepts_within_limits
