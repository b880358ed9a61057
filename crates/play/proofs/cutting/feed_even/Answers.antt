use Rattle.std.proofs.Common.{sym, ap, ◌∙◌, rules}
use Rattle.std.proofs.lemmas.List.{nil_from_length}
use Rattle.std.specs.Slice.Iter.{chunks_rest}
use Rattle.run.specs.Runs.{run}
use Rattle.play.proofs.Cuts.{run_on}
use Rattle.play.proofs.cutting.feed_even.Goals as goal

pub loop-piece-preserved : goal.loop-piece-preserved
loop-piece-preserved g c = (
  search rules,
  tt,
  run_on _ _ _ c.in-Some.piece.now (chunks_rest c.next.new.self) c.in-Some.ensures.steps.1.0 c.feed_piece.ensures.after ∙ c.loop-piece.invariant.2,
  c.feed_piece.ensures.tied ∙ c.loop-piece.invariant.3,
)

pub returns : goal.returns
returns g c =
    let none = nil_from_length _ c.in-None.ensures.steps.1.0 in
    record { after = sym (ap (run _) none) ∙ c.loop-piece.invariant.2; tied = c.loop-piece.invariant.3 }
