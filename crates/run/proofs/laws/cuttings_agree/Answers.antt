use Rattle.run.proofs.Cuttings.{cuts, cuts_alike}
use Rattle.run.proofs.laws.cuttings_agree.Goals as goal

pub returns : goal.returns
returns c = record { cuts = cuts; alike = cuts_alike }
