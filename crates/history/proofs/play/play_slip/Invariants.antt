use Rattle.std.proofs.Common.{◌≡◌, ◌≤◌, length}
use Rattle.std.specs.Slice.Iter.{iter_rest}
use Rattle.writer.specs.Names.{known}
use Rattle.history.specs.Tales.{busy, book}
use Rattle.history.proofs.play.play_slip.Given as goal

abbrev pub invariant-loop-operation : goal.invariant-loop-operation
invariant-loop-operation l = record {
  shorter : length (iter_rest l.operations) ≤ length (iter_rest l.initial.operations);
  tied : l.slip.buffer.ghost_name ≡ l.initial.slip.buffer.ghost_name;
  same : book l.slip.buffer.now (busy l.slip.opened (known l.slip.names) l.slip.used) (iter_rest l.operations)
      ≡ book l.initial.slip.buffer.now (busy l.initial.slip.opened (known l.initial.slip.names) l.initial.slip.used) (iter_rest l.initial.operations);
}
