use Rattle.std.proofs.Common.{◌<◌, ◌≤◌, [], ◌∷◌, map, length, vec_items, sym, ap, ◌∙◌, rules}
use mathlib.Core.List.{map-append}
use lib.ListN.{length-map}
use lib.Seq.{map-set}
use Rattle.calls.specs.Tables.{entry_of, entries_of}
use Rattle.calls.proofs.Stores.{stored_over, stored_new, stored_not}
use Rattle.calls.proofs.types.Table.put.Goals as goal

pub returns-in-Some : goal.returns-in-Some
returns-in-Some c h =
    let T = entries_of c.args.self.now in
    let w = c.args.definition.now in
    ap (map entry_of) c.replace.ensures ∙ map-set entry_of (vec_items c.args.self.now.entries) c.in-Some.at w ∙ stored_over T (entry_of w) c.in-Some.at (sym c.in-Some.is ∙ h)

pub returns-then-len-lt-MOST_ENTRIES : goal.returns-then-len-lt-MOST_ENTRIES
returns-then-len-lt-MOST_ENTRIES c h =
    let T = entries_of c.args.self.now in
    let es = vec_items c.args.self.now.entries in
    let w = c.args.definition.now in
    let few : length es < 32 = search rules in
    let l : length T < 32 = simp length-map few in
    ap (map entry_of) c.push_reserved.ensures.items ∙ map-append entry_of es (w ∷ []) ∙ stored_new T (entry_of w) (sym c.in-None.is ∙ h) l

pub returns-else-len-lt-MOST_ENTRIES : goal.returns-else-len-lt-MOST_ENTRIES
returns-else-len-lt-MOST_ENTRIES c h =
    let T = entries_of c.args.self.now in
    let many : 32 ≤ length (vec_items c.args.self.now.entries) = search rules in
    let l : 32 ≤ length T = simp length-map many in
    stored_not T (entry_of c.args.definition.now) (sym c.in-None.is ∙ h) l
