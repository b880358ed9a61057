-- A stream run piece by piece.
use Rattle.std.proofs.Common.{◌≡◌, ℕ, List, ◌++◌, sym, ap, ◌∙◌}
use Rattle.run.specs.Runs.{Config, run}
use Rattle.run.proofs.Steps.{run-++}

-- after a piece, the run of the rest is the run of both
pub run_on : (c d : Config) (s piece rest : List ℕ) → s ≡ piece ++ rest → d ≡ run c piece → run d rest ≡ run c s
run_on c d s piece rest e f = ap (λ (z : Config). run z rest) f ∙ sym (run-++ c piece rest) ∙ ap (run c) (sym e)
