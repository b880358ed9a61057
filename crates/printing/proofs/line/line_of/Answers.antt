use Rattle.std.proofs.Common.{rules}
use Rattle.printing.proofs.line.line_of.Goals as goal

pub returns : goal.returns
returns c =
    simp (c.push_str.ensures.bytes, c.tell-9.ensures.text, c.tell-8.ensures.text, c.tell-7.ensures.text, c.tell-6.ensures.text, c.tell-5.ensures.text, c.tell-4.ensures.text, c.tell-3.ensures.text, c.tell-2.ensures.text, c.tell.ensures.text, c.new-line.ensures)
    (search rules)
