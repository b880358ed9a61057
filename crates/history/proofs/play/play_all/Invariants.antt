use Rattle.std.proofs.Common.{◌≡◌}
use Rattle.std.specs.Slice.Iter.{iter_rest}
use Rattle.writer.specs.Names.{known}
use Rattle.history.specs.Tales.{idle, book}
use Rattle.history.proofs.play.play_all.Given as goal

abbrev pub invariant-loop-operation : goal.invariant-loop-operation
invariant-loop-operation l = record {
  tied : l.writer.buffer.ghost_name ≡ l.initial.writer.buffer.ghost_name;
  same : book l.writer.buffer.now (idle (known l.writer.names) l.writer.used) (iter_rest l.rest)
      ≡ book l.initial.writer.buffer.now (idle (known l.initial.writer.names) l.initial.writer.used) (iter_rest l.initial.rest);
}
