use Rattle.statement.specs.Views.{said_by}
use Rattle.reader.proofs.Names.{name_fits}
use Rattle.reader.proofs.state.State.settle.Goals as goal

pub obey-requires : goal.obey-requires
obey-requires g c =
    record {
      named = name_fits c.args.self.now.standing c.args.bytes.now (said_by c.in-Ok.statement) c.in-Ok.ensures.value;
      counted = c.requires;
    }
