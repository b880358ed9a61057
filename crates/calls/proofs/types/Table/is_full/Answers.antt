use Rattle.std.proofs.Common.{◌≤◌, length, vec_items, rules}
use lib.ListN.{length-map}
use Rattle.calls.specs.Tables.{entries_of}
use Rattle.calls.proofs.Stores.{absent_by, full_by}
use Rattle.calls.proofs.types.Table.is_full.Goals as goal

pub returns-then-len-ge-MOST_ENTRIES : goal.returns-then-len-ge-MOST_ENTRIES
returns-then-len-ge-MOST_ENTRIES c =
    let T = entries_of c.args.self.now in
    let many : 32 ≤ length (vec_items c.args.self.now.entries) = search rules in
    full_by T c.args.label.now c.is_none.result (simp length-map many) (absent_by T c.args.label.now c.find.result c.is_none.result c.is_none.ensures c.find.ensures.value)
