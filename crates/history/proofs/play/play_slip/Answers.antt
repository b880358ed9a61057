use Rattle.std.proofs.Common.{◌≡◌, ◌+◌, [], length, sym, ap, ◌∙◌, arith}
use Rattle.std.proofs.lemmas.List.{nil_from_length}
use Rattle.std.specs.Slice.Iter.{iter_rest}
use Rattle.spelling.specs.Spelling.{spell}
use Rattle.history.specs.declared.operation.Operation.TheVariants.{Write}
use Rattle.writer.specs.Names.{known}
use Rattle.writer.specs.Answers.{closing}
use Rattle.history.specs.Tales.{busy, idle, book}
use Rattle.history.proofs.Tales.{busy_same, idle_same, book_write, book_end, book_from, one_closing}
use Rattle.history.proofs.play.play_slip.Goals as goal

pub loop-operation-preserved-in-Write : goal.loop-operation-preserved-in-Write
loop-operation-preserved-in-Write c =
    let s = c.loop-operation.slip in
    let w = c.write.ensures in
    let steps = c.in-Some.ensures.steps in
    let rest = iter_rest c.next.new.self in
    let fewer = ap length steps in
    record {
      shorter = omega arith;
      tied = w.tied ∙ c.loop-operation.invariant.tied;
      same =
          busy_same rest w.bytes w.opened (ap known w.names) w.used
          ∙ book_write s.buffer.now (known s.names) s.used rest s.opened c.in-Write.statement _ w.answer
          ∙ book_from s.buffer.now (busy s.opened (known s.names) s.used) (Write c.in-Write.statement) _ _ rest steps c.in-Write.is
          ∙ c.loop-operation.invariant.same;
    }

pub returns-clause-book : goal.returns-clause-book
returns-clause-book c =
    let s = c.loop-operation.slip in
    let w = c.close-2.ensures in
    let steps = c.in_default.ensures.steps in
    let one = one_closing s.opened in
    let n : c.close-2.result.used ≡ s.used + length (spell (closing s.opened)) = omega arith in
    let none = nil_from_length _ steps.0 in
    ap (book c.close-2.result.buffer.now (idle (known c.close-2.result.names) c.close-2.result.used)) (ap iter_rest steps.1 ∙ none)
    ∙ idle_same [] w.bytes (ap known w.names) n
    ∙ book_end s.buffer.now (known s.names) s.used s.opened
    ∙ ap (book s.buffer.now (busy s.opened (known s.names) s.used)) (sym none)
    ∙ c.loop-operation.invariant.same
