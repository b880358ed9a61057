use Rattle.std.proofs.Common.{length, sym, ap, ◌∙◌}
use Rattle.statement.specs.Views.{said_by}
use Rattle.wording.specs.Words.{worded}
use Rattle.writer.specs.Names.{known}
use Rattle.history.specs.Tales.{State, idle}
use Rattle.composing.specs.Lines.{lines_of, saying_of}
use Rattle.composing.specs.Composed.{Composed, heeded, composing, ledger}
use Rattle.composing.proofs.Ledgers.{begun_opened, begun_failed, failed_end, went_on}
use Rattle.composing.proofs.compose.compose_all.Goals as goal

pub returns-then-is_err-clause-ledger : goal.returns-then-is_err-clause-ledger
returns-then-is_err-clause-ledger c =
    let w = c.loop-words.writer in
    let out = w.buffer.now in
    let ns = known w.names in
    let st = idle ns w.used in
    let number = c.next_words.new.self.line in
    let rest = lines_of c.next_words.new.self.rest.now in
    let further : State → Composed = λ st'. composing (length out) st' number rest in
    let said = said_by c.in-Ok.statement in
    let slip = c.open.result in
    let filled = c.fill-filled.result in
    let after = c.fill-filled.new.script in
    failed_end filled.result filled.writer.buffer.now (idle (known filled.writer.names) filled.writer.used) after.line (lines_of after.rest.now) (sym c.if-is_err.ensures.value)
    ∙ c.fill-filled.ensures.ledger
    ∙ begun_opened out ns w.used number rest said slip.buffer.now slip.opened (known slip.names) slip.used c.in-Ok.ensures.1 c.open.ensures.bytes c.open.ensures.state
    ∙ ap (λ z. ledger out w.used (heeded (length out) st number (saying_of z) further)) (sym c.in-Ok.ensures.0)
    ∙ ap (ledger out w.used) (sym (c.in-Some.ensures.next (length out) st))
    ∙ c.loop-words.invariant.same

pub loop-words-preserved : goal.loop-words-preserved
loop-words-preserved c =
    let w = c.loop-words.writer in
    let out = w.buffer.now in
    let ns = known w.names in
    let st = idle ns w.used in
    let number = c.next_words.new.self.line in
    let rest = lines_of c.next_words.new.self.rest.now in
    let further : State → Composed = λ st'. composing (length out) st' number rest in
    let said = said_by c.in-Ok.statement in
    let slip = c.open.result in
    let filled = c.fill-filled.result in
    let after = c.fill-filled.new.script in
    record {
      tied = c.fill-filled.ensures.tied ∙ c.open.ensures.tied ∙ c.loop-words.invariant.tied;
      same =
          went_on filled.result filled.writer.buffer.now (idle (known filled.writer.names) filled.writer.used) after.line (lines_of after.rest.now) (sym c.if-is_err.ensures.value)
          ∙ c.fill-filled.ensures.ledger
          ∙ begun_opened out ns w.used number rest said slip.buffer.now slip.opened (known slip.names) slip.used c.in-Ok.ensures.1 c.open.ensures.bytes c.open.ensures.state
          ∙ ap (λ z. ledger out w.used (heeded (length out) st number (saying_of z) further)) (sym c.in-Ok.ensures.0)
          ∙ ap (ledger out w.used) (sym (c.in-Some.ensures.next (length out) st))
          ∙ c.loop-words.invariant.same;
    }

pub returns-in-Err-clause-ledger : goal.returns-in-Err-clause-ledger
returns-in-Err-clause-ledger c =
    let w = c.loop-words.writer in
    let out = w.buffer.now in
    let ns = known w.names in
    let st = idle ns w.used in
    let number = c.next_words.new.self.line in
    let rest = lines_of c.next_words.new.self.rest.now in
    let further : State → Composed = λ st'. composing (length out) st' number rest in
    begun_failed out ns w.used number rest (worded c.in-Some.words.now) c.in-Err.failure c.in-Err.ensures
    ∙ ap (ledger out w.used) (sym (c.in-Some.ensures.next (length out) st))
    ∙ c.loop-words.invariant.same
