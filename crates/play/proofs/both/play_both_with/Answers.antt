use Rattle.play.proofs.Ends.{both_played}
use Rattle.play.proofs.both.play_both_with.Goals as goal

pub returns-clause-played : goal.returns-clause-played
returns-clause-played g c =
    let m = g.A.Sheet.meaning in
    let n = g.B.Sheet.meaning in
    let x = c.play_with-its_report in
    let y = c.play_with-other_report in
    λ u v.
    both_played (m c.args.a.now) (n c.args.b.now) c.args.its_calls.now c.args.other_calls.now (m x.new.sheet) (n y.new.sheet) _ _ (x.ensures.played u) (y.ensures.played v) x.ensures.bytes
