use Rattle.run.proofs.Writes.{writes_alike}
use Rattle.run.proofs.written.calls_may_be_written_out.Goals as goal

pub returns : goal.returns
returns c = writes_alike
