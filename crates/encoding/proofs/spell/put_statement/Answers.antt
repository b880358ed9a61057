use Rattle.std.proofs.Common.{length, ap, ◌∙◌, arith}
use lib.Seq.{sets}
use Rattle.statement.specs.Views.{said_by}
use Rattle.spelling.specs.Spelling.{spell_arguments}
use Rattle.encoding.proofs.Puts.{statement_bytes, front_reads}
use Rattle.encoding.proofs.spell.put_statement.Goals as goal

pub returns : goal.returns
returns c =
    let s = said_by c.args.statement in
    let old = c.args.buffer.now in
    let end = c.put_arguments.new.buffer in
    let size = ap (λ z. length (spell_arguments z)) c.into.ensures in
    let rest = c.put_arguments.ensures.bytes ∙ ap (λ z. sets c.put-next.new.buffer c.put-next.result (spell_arguments z)) c.into.ensures in
    let written = statement_bytes s old c.put-next.new.buffer end c.code_of.result c.put-next.result c.code_of.ensures c.put-next.ensures.bytes c.put-next.ensures.after rest c.requires.room in
    record { size = omega arith; bytes = written; reads = front_reads s c.put_arguments.result end old c.requires.fits (omega arith) written }
