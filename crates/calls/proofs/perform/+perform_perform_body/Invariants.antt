use Rattle.std.proofs.Common.{◌≡◌, ◌+◌, ◌-◌, ◌*◌, ◌<◌, [], length, take, drop}
use Rattle.run.specs.Performing.{perform, play}
use Rattle.pen.specs.Views.{ink_of}
use Rattle.calls.specs.Tables.{open_of, calls_left, entries_of}
use Rattle.calls.proofs.perform.+perform_perform_body.Given as goal

abbrev pub decreases-perform : goal.decreases-perform
decreases-perform g l = 2 * calls_left l.calls.now

abbrev pub decreases-perform_body : goal.decreases-perform_body
decreases-perform_body g l = 2 * calls_left l.calls.now + 1

abbrev pub invariant-perform_body-loop-end : goal.invariant-perform_body-loop-end
invariant-perform_body-loop-end g l =
    let f = perform (calls_left l.calls) (entries_of l.table) (open_of l.calls) in
    let j = length (open_of l.calls) in
    (l.start < l.end)
    × (play f j l.body 0 [] (ink_of l.initial.work.pen (g.S.Sheet.meaning l.initial.sheet)) l.initial.work.count ≡ play f j (drop (l.end - 1) l.body) l.start (take (l.end - 1 - l.start) (drop l.start l.body)) (ink_of l.work.pen (g.S.Sheet.meaning l.sheet)) l.work.count)
    × (g.S.Sheet.tied l.sheet ≡ g.S.Sheet.tied l.initial.sheet)
