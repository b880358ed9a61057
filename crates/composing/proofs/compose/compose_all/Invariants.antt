use Rattle.std.proofs.Common.{◌≡◌, length, None}
use Rattle.writer.specs.Names.{known}
use Rattle.history.specs.Tales.{idle}
use Rattle.composing.specs.Lines.{lines_of}
use Rattle.composing.specs.Composed.{on_ledger}
use Rattle.composing.proofs.compose.compose_all.Given as goal

abbrev pub invariant-loop-words : goal.invariant-loop-words
invariant-loop-words l = record {
  tied : l.writer.buffer.ghost_name ≡ l.initial.writer.buffer.ghost_name;
  same : on_ledger None l.writer.buffer.now (idle (known l.writer.names) l.writer.used) l.script.line (lines_of l.script.rest.now)
      ≡ on_ledger None l.initial.writer.buffer.now (idle (known l.initial.writer.names) l.initial.writer.used) l.initial.script.line (lines_of l.initial.script.rest.now);
}

abbrev pub decreases-loop-words : goal.decreases-loop-words
decreases-loop-words l = length l.script.rest.now
