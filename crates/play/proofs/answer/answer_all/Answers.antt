use Rattle.std.proofs.Common.{[], get_or, fold, sym, ap, ◌∙◌, subst, take_all}
use Rattle.std.specs.List.{AllByRecursion}
use Rattle.std.proofs.ByRecursion.{All-more}
use Rattle.std.proofs.lemmas.List.Sums.{fold_more}
use Rattle.run.specs.Runs.{Config}
use Rattle.reader.specs.Views.{config_of}
use Rattle.play.specs.declared.list.Call.{Call as Asked}
use Rattle.play.specs.declared.list.Call.TheVariants as asked
use Rattle.play.specs.Plays.{call_of, HasBytes}
use Rattle.play.proofs.Calls.{answering_of, folded_calls, stream_bytes}
use Rattle.play.proofs.answer.answer_all.Goals as goal

pub loop-call-preserved : goal.loop-call-preserved
loop-call-preserved g c =
    let first : Config = config_of c.args.reader.now (g.S.Sheet.meaning c.args.sheet.now) in
    let ks = c.args.calls.now in
    let i = c.loop-call.call-index in
    let d : Asked = asked.Feed (record { ref_ptr = (0, 0); now = [] }) in (
      c.answer.ensures.after
          ∙ ap (λ z. answering_of z (get_or ks i d)) c.loop-call.invariant.0
          ∙ sym (fold_more answering_of first ks i d c.loop-call-test.true),
      All-more (λ k. HasBytes (call_of k)) ks i d c.loop-call-test.true c.loop-call.invariant.1 c.answer.ensures.bytes,
      c.answer.ensures.tied ∙ c.loop-call.invariant.2,
    )

pub returns : goal.returns
returns g c =
    let first : Config = config_of c.args.reader.now (g.S.Sheet.meaning c.args.sheet.now) in
    let ks = c.args.calls.now in
    let e = take_all c.loop-call.call-index ks c.loop-call-test.false in
    record {
      after = c.loop-call.invariant.0 ∙ ap (fold answering_of first) e ∙ folded_calls first ks;
      bytes = stream_bytes ks (subst (AllByRecursion (λ k. HasBytes (call_of k))) e c.loop-call.invariant.1);
      tied = c.loop-call.invariant.2;
    }
