use Rattle.std.proofs.Common.{refl}
use Rattle.std.specs.Vec.{with_item}
use Rattle.calls.proofs.Places.{same_table}
use Rattle.calls.proofs.types.Table.slot.Goals as goal

pub returns : goal.returns
returns c = ((refl, λ w. same_table (with_item c.args.self.now.entries c.args.at w) _ _ _ _), tt)
