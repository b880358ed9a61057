use Rattle.std.proofs.Common.{rules}
use Rattle.statement.specs.Views.{said_by}
use Rattle.spelling.proofs.Lengths.{lawful_short}
use Rattle.encoding.proofs.spell.spelling_of.Goals as goal

pub put_statement-size-requires-clause-room : goal.put_statement-size-requires-clause-room
put_statement-size-requires-clause-room c = lawful_short (said_by c.args.statement) (search rules)
