use Rattle.std.proofs.Common.{◌≡◌, ℕ, ◌≤◌, length}
use Rattle.history.specs.Tales.{State}
use Rattle.composing.specs.Lines.{lines_of}
use Rattle.composing.specs.Composed.{composing}
use Rattle.composing.proofs.script.Script.next_words.Given as goal

abbrev pub invariant-loop-line : goal.invariant-loop-line
invariant-loop-line l = record {
  shorter : length l.self.rest.now ≤ length l.initial.self.rest.now;
  next : (size : ℕ) (st : State) → composing size st l.initial.self.line (lines_of l.initial.self.rest.now) ≡ composing size st l.self.line (lines_of l.self.rest.now);
}

abbrev pub decreases-loop-line : goal.decreases-loop-line
decreases-loop-line l = length l.self.rest.now
