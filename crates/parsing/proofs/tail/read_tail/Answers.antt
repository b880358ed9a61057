use Rattle.std.proofs.Common.{sym, ap, ◌∙◌, rules}
use Rattle.std.proofs.lemmas.Slice.{first_rest}
use Rattle.statement.specs.Reading.{tail_of}
use Rattle.parsing.proofs.Places.{rest_lies}
use Rattle.parsing.proofs.tail.read_tail.Goals as goal

pub returns-in-len1-up : goal.returns-in-len1-up
returns-in-len1-up c =
    let bytes = c.args.bytes.now in
    record {
      value = c.coded_tail.ensures.value ∙ ap tail_of (sym (first_rest bytes 0 (search rules)));
      parts = λ ws e. c.coded_tail.ensures.parts ws (rest_lies c.args.at ws bytes e (search rules));
      stands = c.coded_tail.ensures.stands;
    }
