use Rattle.std.proofs.Common.{◌≡◌, [], None, ◌∙◌}
use Rattle.std.specs.Result.{result_err}
use Rattle.history.specs.Tales.{idle}
use Rattle.composing.specs.Lines.{lines_of}
use Rattle.composing.specs.Composed.{end_ledger, on_ledger}
use Rattle.composing.proofs.Finished.{finished}
use Rattle.composing.proofs.compose.compose_new.Goals as goal

pub returns : goal.returns
returns c =
    let r = c.compose_all-outcome.result in
    let m = c.make.ensures in
    let n = c.new-script.ensures in
    let text = c.args.text.now in
    let was = c.args.out.now in
    let e : end_ledger (result_err r.result) r.writer.buffer.now r.writer.used ≡ on_ledger None was (idle [] 0) 0 (lines_of text)
    = c.compose_all-outcome.ensures.ledger ∙ (λ i. on_ledger None (m.bytes i) (idle (m.names i) (m.used i)) (n.line i) (lines_of (n.rest i))) in
    let w = finished (result_err r.result) r.writer.buffer.now r.writer.used was text e r.writer.within r.writer.few c.requires.asked in
    record { failed = w.failed; count = w.count; bytes = w.bytes; makes = w.makes; tied = c.compose_all-outcome.ensures.tied ∙ m.tied }
