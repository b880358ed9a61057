use Rattle.std.proofs.Common.{◌≡◌}
use Rattle.run.specs.Runs.{run}
use Rattle.reader.specs.Views.{config_of}
use Rattle.play.proofs.cutting.feed_given.Given as goal

-- the run of what is left is the run of the whole
abbrev pub invariant-loop-length : goal.invariant-loop-length
invariant-loop-length g l =
    let m = g.S.Sheet.meaning in
    (run (config_of l.reader (m l.sheet)) l.rest ≡ run (config_of l.initial.reader (m l.initial.sheet)) l.stream)
    × (g.S.Sheet.tied l.sheet ≡ g.S.Sheet.tied l.initial.sheet)
