use Rattle.std.proofs.Common.{rules}
use Rattle.arguments.proofs.Counts.{one_byte, two_bytes}
use Rattle.arguments.proofs.count.read_count.Goals as goal

pub returns-in-len1-up : goal.returns-in-len1-up
returns-in-len1-up c = one_byte c.args.bytes.now (search rules) c.if-n-lt128.true

pub returns-in_ok-long_count-in-len2-up : goal.returns-in_ok-long_count-in-len2-up
returns-in_ok-long_count-in-len2-up c = two_bytes c.args.bytes.now (search rules) c.if-n-lt128.false c.in_ok-long_count-in-len2-up.field-0 c.in_ok-long_count-in-len2-up.ensures
