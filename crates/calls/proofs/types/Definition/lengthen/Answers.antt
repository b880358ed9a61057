use Rattle.std.proofs.Common.{ap}
use Rattle.calls.specs.Tables.{entry_of}
use Rattle.calls.proofs.types.Definition.lengthen.Goals as goal

pub returns : goal.returns
returns c =
    let d = entry_of c.args.self.now in
    ap (λ z. record { name = d.name; header = d.header; body = z }) c.append.ensures
