use Rattle.std.proofs.Common.{arith}
use Rattle.encoding.proofs.Puts.{put_part}
use Rattle.encoding.proofs.put.put.Goals as goal

pub returns-clause-bytes : goal.returns-clause-bytes
returns-clause-bytes c = put_part _ _ _ _ _ (omega arith) c.copy_from_slice.ensures.after (omega arith)
