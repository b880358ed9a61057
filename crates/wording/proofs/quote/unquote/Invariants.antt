use Rattle.std.proofs.Common.{◌≡◌, ◌≤◌, ◌+◌, take, length}
use Rattle.wording.specs.Quotes.{before, unquoted}
use Rattle.wording.proofs.quote.unquote.Given as goal

abbrev pub invariant-loop-text : goal.invariant-loop-text
invariant-loop-text l = (before (take l.len l.scratch) (unquoted l.text) ≡ unquoted l.initial.text) × (l.len + length l.text ≤ length l.scratch)

abbrev pub decreases-loop-text : goal.decreases-loop-text
decreases-loop-text l = length l.text
