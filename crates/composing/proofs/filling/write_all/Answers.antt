use Rattle.std.proofs.Common.{◌≡◌, ◌+◌, false, length, Ok, sym, ap, ◌∙◌, arith, rules}
use lib.Seq.{sets, length-sets}
use Rattle.statement.specs.Views.{said_by}
use Rattle.spelling.specs.Spelling.{spell}
use Rattle.writer.specs.Names.{known}
use Rattle.writer.specs.Answers.{passed}
use Rattle.history.specs.Tales.{State, busy}
use Rattle.composing.specs.Lines.{lines_of, saying_of}
use Rattle.composing.specs.Composed.{Composed, closes, heeded, composing, ledger}
use Rattle.composing.proofs.Ledgers.{stated_written, goes_on}
use Rattle.composing.proofs.filling.write_all.Goals as goal

pub loop-words-preserved : goal.loop-words-preserved
loop-words-preserved c =
    let s = c.loop-words.slip in
    let out = s.buffer.now in
    let st = busy s.opened (known s.names) s.used in
    let w = c.write.ensures in
    let said = said_by c.in_ok-statement.statement in
    let number = c.next_words.new.self.line in
    let rest = lines_of c.next_words.new.self.rest.now in
    let ok : c.write.result ≡ Ok tt = search rules in
    let further : State → Composed = λ st'. composing (length out) st' number rest in
    let open-still : closes s.opened said ≡ false = ap (λ o. closes o said) (sym c.opened.ensures) ∙ sym c.if-closes.ensures in
    record {
      shorter = omega arith;
      tied = w.tied ∙ c.loop-words.invariant.tied;
      same =
          goes_on (length out) number rest (w.bytes ∙ ap (λ r. sets out s.used (passed r (spell said))) ok) (length-sets out s.used (spell said)) w.opened (ap known w.names) (w.used ∙ ap (λ r. s.used + length (passed r (spell said))) ok)
          ∙ stated_written out s.opened (known s.names) s.used number further said open-still (sym ok ∙ w.answer)
          ∙ ap (λ z. ledger out s.used (heeded (length out) st number (saying_of z) further)) (sym c.in_ok-statement.ensures)
          ∙ ap (ledger out s.used) (sym (c.in-Some.ensures.next (length out) st))
          ∙ c.loop-words.invariant.same;
    }
