use Rattle.std.proofs.Common.{Ok, Err, rules}
use Rattle.std.specs.Result.{result_err}
use Rattle.calls.specs.Outcomes.{outside}
use Rattle.calls.specs.Tables.{entry_of}
use Rattle.reader.proofs.Drafts.{recorded_as}
use Rattle.reader.proofs.state.State.record_statement.Goals as goal

pub returns-in-Ok : goal.returns-in-Ok
returns-in-Ok c m h home e =
    let k = c.record in
    recorded_as c.args.self.now m h home c.args.bytes.now c.args.at (Ok tt) (result_err k.result) (entry_of k.new.self) (search rules) k.ensures.value k.ensures.after e

pub returns-in-Err : goal.returns-in-Err
returns-in-Err c m h home e =
    let k = c.record in
    rw c.at.ensures (recorded_as c.args.self.now m h home c.args.bytes.now c.args.at (Err (outside c.in-Err.fault)) (result_err k.result) (entry_of k.new.self) (search rules) k.ensures.value k.ensures.after e)
