use Rattle.std.proofs.Common.{arith}
use Rattle.arguments.proofs.Counts.{count_leaves, string_found, string_stands, string_lies}
use Rattle.arguments.proofs.count.read_string.Goals as goal

pub returns : goal.returns
returns c =
    let bytes = c.args.bytes.now in
    let n = c.in_ok-n.n in
    let rest = c.in_ok-n.rest.now in
    let counted = c.in_ok-n.ensures in
    let split = c.split_at.ensures in
    record {
      value = string_found n bytes rest _ _ counted split.front split.back c.args.limit c.if-n-limit.false c.if-rest-n.false;
      place = (
        omega (arith, (count_leaves n bytes rest counted).few),
        λ ws e. string_lies n bytes rest _ _ counted split.front split.back c.args.at ws split.front_len e,
      );
      stands = string_stands n bytes rest _ _ counted split.front split.back c.args.at split.front_len;
    }
