use Rattle.std.proofs.Common.{◌≡◌, ◌≤◌, take}
use Rattle.std.specs.List.{range_with_len, count_by}
use Rattle.specimen_page.specs.Rows.{inked_in}
use Rattle.specimen_page.proofs.rows.inked_in_row.Given as goal

-- the pixels so far are counted
abbrev pub invariant-loop-column : goal.invariant-loop-column
invariant-loop-column g l =
    let a = g.S.Sheet.meaning l.sheet in
    (l.count ≤ l.column) × (l.count ≡ count_by (inked_in a l.row) (take l.column (range_with_len 0 a.side)))
