use Rattle.std.proofs.Common.{[], ◌∷◌, ◌++◌, length, sym, ap, ◌∙◌}
use lib.Seq.{sets}
use Rattle.statement.specs.Views.{bytes_of, tail_said}
use Rattle.spelling.specs.Parts.{said_with}
use Rattle.spelling.specs.Spelling.{spell_string, spell_tail, spell_arguments}
use Rattle.encoding.proofs.Puts.{sets_then}
use Rattle.encoding.proofs.spell.put_arguments.Goals as goal

pub returns-in-Heading-clause-bytes : goal.returns-in-Heading-clause-bytes
returns-in-Heading-clause-bytes c =
    let n = bytes_of c.in-Heading.name in
    sets_then c.args.buffer.now c.put_string-next.new.buffer c.put-in-Heading.new.buffer (spell_string n) (1 ∷ c.into.result ∷ []) c.args.place c.put_string-next.result
    c.put_string-next.ensures.bytes c.put_string-next.ensures.after c.put-in-Heading.ensures.bytes
    ∙ ap (λ b. sets c.args.buffer.now c.args.place (spell_string n ++ (1 ∷ b ∷ []))) c.into.ensures
    ∙ ap (λ p. sets c.args.buffer.now c.args.place (spell_arguments (said_with p))) (sym c.in-Heading.is)

pub returns-in-Calling-clause-bytes : goal.returns-in-Calling-clause-bytes
returns-in-Calling-clause-bytes c =
    let t = spell_tail (tail_said c.in-Calling.tail) in
    sets_then c.args.buffer.now c.put_string-next-in-Calling.new.buffer c.put_tail.new.buffer (spell_string (bytes_of c.in-Calling.name)) (length t ∷ t) c.args.place
    c.put_string-next-in-Calling.result c.put_string-next-in-Calling.ensures.bytes c.put_string-next-in-Calling.ensures.after c.put_tail.ensures.bytes
    ∙ ap (λ p. sets c.args.buffer.now c.args.place (spell_arguments (said_with p))) (sym c.in-Calling.is)
