use Rattle.font.specs.Glyphs.{rows}
use Rattle.font.proofs.Shapes.{stored_small}
use Rattle.font.proofs.table_row.Goals as goal

pub returns-clause-small : goal.returns-clause-small
unfolding rows
returns-clause-small c = stored_small c.args.place c.requires
