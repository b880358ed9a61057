use Rattle.std.proofs.Common.{◌≡◌, ◌≤◌, length, None}
use Rattle.writer.specs.Names.{known}
use Rattle.history.specs.Tales.{busy}
use Rattle.composing.specs.Lines.{lines_of}
use Rattle.composing.specs.Composed.{on_ledger}
use Rattle.composing.proofs.filling.write_all.Given as goal

abbrev pub invariant-loop-words : goal.invariant-loop-words
invariant-loop-words l = record {
  shorter : length l.script.rest.now ≤ length l.initial.script.rest.now;
  tied : l.slip.buffer.ghost_name ≡ l.initial.slip.buffer.ghost_name;
  same : on_ledger None l.slip.buffer.now (busy l.slip.opened (known l.slip.names) l.slip.used) l.script.line (lines_of l.script.rest.now)
      ≡ on_ledger None l.initial.slip.buffer.now (busy l.initial.slip.opened (known l.initial.slip.names) l.initial.slip.used) l.initial.script.line (lines_of l.initial.script.rest.now);
}

abbrev pub decreases-loop-words : goal.decreases-loop-words
decreases-loop-words l = length l.script.rest.now
