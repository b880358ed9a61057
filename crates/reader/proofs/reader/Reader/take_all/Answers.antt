use Rattle.std.proofs.Common.{get_or, sym, ap, ◌∙◌, take_all}
use Rattle.std.proofs.lemmas.List.Sums.{fold_more}
use Rattle.run.specs.Runs.{Config, step, run}
use Rattle.reader.specs.Views.{config_of}
use Rattle.reader.proofs.reader.Reader.take_all.Goals as goal

pub loop-byte-preserved : goal.loop-byte-preserved
loop-byte-preserved g c =
    let first : Config = config_of c.args.self.now (g.S.Sheet.meaning c.args.sheet.now) in (
      c.take.ensures.after
          ∙ ap (λ z. step z (get_or c.args.piece.now c.loop-byte.byte-index 0)) c.loop-byte.invariant.0
          ∙ sym (fold_more step first c.args.piece.now c.loop-byte.byte-index 0 c.loop-byte-test.true),
      c.take.ensures.tied ∙ c.loop-byte.invariant.1,
    )

pub returns : goal.returns
returns g c =
    let first : Config = config_of c.args.self.now (g.S.Sheet.meaning c.args.sheet.now) in
    record { after = c.loop-byte.invariant.0 ∙ ap (run first) (take_all _ _ c.loop-byte-test.false); tied = c.loop-byte.invariant.1 }
