use Rattle.std.proofs.Common.{◌≡◌, take, fold}
use Rattle.std.specs.List.{AllByRecursion}
use Rattle.reader.specs.Views.{config_of}
use Rattle.play.specs.Plays.{call_of, HasBytes}
use Rattle.play.proofs.Calls.{answering_of}
use Rattle.play.proofs.answer.answer_all.Given as goal

abbrev pub invariant-loop-call : goal.invariant-loop-call
invariant-loop-call g l =
    let m = g.S.Sheet.meaning in
    (config_of l.reader (m l.sheet) ≡ fold answering_of (config_of l.initial.reader (m l.initial.sheet)) (take l.call-index l.calls))
    × AllByRecursion (λ k. HasBytes (call_of k)) (take l.call-index l.calls)
    × (g.S.Sheet.tied l.sheet ≡ g.S.Sheet.tied l.initial.sheet)
