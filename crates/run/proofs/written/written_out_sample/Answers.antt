use Rattle.run.proofs.Samples.{sample}
use Rattle.run.proofs.written.written_out_sample.Goals as goal

pub returns : goal.returns
returns c = sample
