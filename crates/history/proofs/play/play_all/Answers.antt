use Rattle.std.proofs.Common.{sym, ap, ◌∙◌}
use Rattle.std.specs.Slice.Iter.{iter_rest}
use Rattle.writer.specs.declared.types.Opened.TheVariants as opened
use Rattle.history.specs.declared.operation.Operation.TheVariants.{Definition}
use Rattle.writer.specs.Names.{known}
use Rattle.history.specs.Tales.{idle}
use Rattle.history.proofs.Tales.{busy_same, book_definition, book_from, ok_is}
use Rattle.history.proofs.play.play_all.Goals as goal

pub loop-operation-preserved-then-is_ok-2 : goal.loop-operation-preserved-then-is_ok-2
loop-operation-preserved-then-is_ok-2 c =
    let w = c.loop-operation.writer in
    let p = c.open_definition-slip.ensures in
    let m = c.in-Definition.name in
    let h = c.in-Definition.header in
    let rest = iter_rest c.next.new.self in
    let ok = sym c.ask_definition.ensures ∙ ok_is _ (sym c.is_ok-in-Definition.ensures.value ∙ c.if-is_ok-2.true) in
    record {
      tied = c.play_slip-writer-then-is_ok-2.ensures.tied ∙ p.tied ∙ c.loop-operation.invariant.tied;
      same =
          c.play_slip-writer-then-is_ok-2.ensures.book
          ∙ busy_same rest p.bytes (p.opened ∙ ap opened.Definition p.used) p.names p.used
          ∙ book_definition w.buffer.now (known w.names) w.used rest m h ok
          ∙ book_from w.buffer.now (idle (known w.names) w.used) (Definition m h) _ _ rest c.in-Some.ensures.steps c.in-Definition.is
          ∙ c.loop-operation.invariant.same;
    }
