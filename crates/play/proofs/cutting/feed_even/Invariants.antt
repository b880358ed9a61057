use Rattle.std.proofs.Common.{◌≡◌}
use Rattle.std.specs.Slice.Iter.{chunks_rest}
use Rattle.run.specs.Runs.{run}
use Rattle.reader.specs.Views.{config_of}
use Rattle.play.proofs.cutting.feed_even.Given as goal

-- the run of what is left is the run of the whole
abbrev pub invariant-loop-piece : goal.invariant-loop-piece
invariant-loop-piece g l =
    let m = g.S.Sheet.meaning in
    (goal.iterator-loop-piece g).can_next l.piece-iterator
    × (goal.iterator-loop-piece g).is_finite l.piece-iterator
    × (run (config_of l.reader (m l.sheet)) (chunks_rest l.piece-iterator) ≡ run (config_of l.initial.reader (m l.initial.sheet)) l.stream)
    × (g.S.Sheet.tied l.sheet ≡ g.S.Sheet.tied l.initial.sheet)
