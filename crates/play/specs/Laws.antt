-- What two lists of calls on two sheets have in common.
use Rattle.std.specs.Prelude.{◌≡◌, List}
use Rattle.sheet.specs.Meanings.{Meaning}
use Rattle.run.specs.declared.types.Report.{Report}
use Rattle.run.specs.Runs.{run, begun}
use Rattle.run.specs.Cuttings.{finishes}
use Rattle.run.specs.Restated.{Restated}
use Rattle.run.specs.Written.{Written, NotRefused}
use Rattle.play.specs.declared.list.Call.{Call as Asked}
use Rattle.play.specs.Plays.{Ends, calls_of, stream_of, comes_to}

-- equal page, stock and report
pub record SameEnd (m n : Meaning) (r s : Report) : Type 0 where
  pub page : m.inked ≡ n.inked
  pub stock : m.stock ≡ n.stock
  pub report : r ≡ s

-- equal page, stock and beam
pub record SameDrawn (m n : Meaning) (r s : Report) : Type 0 where
  pub page : m.inked ≡ n.inked
  pub stock : m.stock ≡ n.stock
  pub beam : r.beam ≡ s.beam

-- a finish in both lists or in neither
abbrev pub FinishAlike : List Asked → List Asked → Type 0
FinishAlike ks ls = finishes (calls_of ks) ≡ finishes (calls_of ls)

-- two lists of calls, from the meanings m and n, that left the sheets and reports m' and r, n' and s
pub record PlayedBoth (m n : Meaning) (ks ls : List Asked) (m' n' : Meaning) (r s : Report) : Type 0 where
  -- each list comes to the run of its stream
  pub first : Ends (comes_to m ks) m' r
  pub second : Ends (comes_to n ls) n' s
  -- from alike meanings, two cuttings of one stream end the same
  pub cut : m ≡ n → stream_of ks ≡ stream_of ls → FinishAlike ks ls → SameEnd m' n' r s
  -- so do a stream and one that restates it
  pub restated : m ≡ n → Restated (begun m) (stream_of ks) (stream_of ls) → FinishAlike ks ls → SameEnd m' n' r s
  -- a stream and one with its calls written out draw the same, if neither is refused
  pub written : m ≡ n → Written (begun m) (stream_of ks) (stream_of ls) → NotRefused (run (begun m) (stream_of ks)) → NotRefused (run (begun n) (stream_of ls)) → SameDrawn m' n' r s
