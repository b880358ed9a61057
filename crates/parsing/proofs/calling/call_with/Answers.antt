use Rattle.std.proofs.Common.{◌+◌, ◌≤◌, length, ◌∙◌, rules}
use Rattle.statement.specs.Views.{bytes_of}
use Rattle.parsing.proofs.Calls.{called, cut_lies}
use Rattle.parsing.proofs.calling.call_with.Goals as goal

pub returns-in-len1-up-3 : goal.returns-in-len1-up-3
returns-in-len1-up-3 c =
    let name = c.args.name in
    let rest = c.args.rest.now in
    let some : 1 ≤ length rest = search rules in
    record {
      value = c.call_to.ensures.value ∙ called (bytes_of name) rest some c.if-t-gt-LONGEST_TAIL.false c.if-bytes-t.false;
      parts = λ ws lies e. c.call_to.ensures.parts ws lies (cut_lies (name.at + length (bytes_of name)) ws rest some c.if-bytes-t.false e);
      stands = c.call_to.ensures.stands;
    }
