use Rattle.std.proofs.Common.{◌-◌, length, take, drop, ap, ◌∙◌, arith}
use Rattle.statement.specs.Views.{said_by}
use Rattle.spelling.specs.Spelling.{spell}
use Rattle.spelling.specs.Answers.{spelled}
use Rattle.writer.proofs.Parts.{put_rest}
use Rattle.writer.proofs.state.Slip.lay.Goals as goal

pub returns-clause-bytes : goal.returns-clause-bytes
returns-clause-bytes c =
    let s = spell (said_by c.args.statement) in
    let l = c.args.self.now.buffer.now in
    let at = c.args.self.now.used in
    put_rest at s c.spell.new.buffer l (c.spell.ensures.bytes ∙ ap (λ r. spelled r s (take (length l - at) (drop at l))) c.unwrap.ensures) (omega arith)
