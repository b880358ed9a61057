use Rattle.std.proofs.Common.{◌∙◌}
use Rattle.play.proofs.Cuts.{run_on}
use Rattle.play.proofs.cutting.feed_given.Goals as goal

pub loop-length-preserved : goal.loop-length-preserved
loop-length-preserved g c = (
  run_on _ _ _ c.split_at.result.0.now c.split_at.result.1.now c.split_at.ensures.by_index.0 c.feed_piece.ensures.after ∙ c.loop-length.invariant.0,
  c.feed_piece.ensures.tied ∙ c.loop-length.invariant.1,
)
