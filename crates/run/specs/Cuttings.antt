-- A list of calls of a reader is a cutting of its stream.
use Rattle.std.specs.Prelude.{◌≡◌, ℕ, Bool, true, false, cond, List, [], ◌∷◌, ◌++◌, fold}
use Rattle.sheet.specs.Meanings.{Meaning}
use Rattle.run.specs.Runs.{Config, run, finish, begun, report_of}

pub data Call : Type 0 where
  feed : List ℕ → Call
  finishing : Call
  reporting : Call

abbrev pub answering : Config → Call → Config
answering c (feed p) = run c p
answering c finishing = finish c
answering c reporting = c

-- the calls, one after the other, from a new reader and a sheet of this meaning
abbrev pub played : Meaning → List Call → Config
played m ks = fold answering (begun m) ks

-- the pieces joined, up to the first finish or else the end
abbrev pub stream : List Call → List ℕ
stream [] = []
stream (feed p ∷ ks) = p ++ stream ks
stream (finishing ∷ ks) = []
stream (reporting ∷ ks) = stream ks

abbrev pub finishes : List Call → Bool
finishes [] = false
finishes (feed p ∷ ks) = finishes ks
finishes (finishing ∷ ks) = true
finishes (reporting ∷ ks) = finishes ks

-- the run of a stream and, if there is one, of its finish
abbrev pub outcome : Meaning → List ℕ → Bool → Config
outcome m bs f = cond f (finish (run (begun m) bs)) (run (begun m) bs)

-- equal page, stock and report
pub record SameOutcome (c e : Config) : Type 0 where
  pub page : c.drawing.ink.sheet.inked ≡ e.drawing.ink.sheet.inked
  pub stock : c.drawing.ink.sheet.stock ≡ e.drawing.ink.sheet.stock
  pub report : report_of c ≡ report_of e

-- any list of calls comes to the run of its stream, and of its finish if it has one
abbrev pub Cuts : Type 0
Cuts = (m : Meaning) (ks : List Call) → played m ks ≡ outcome m (stream ks) (finishes ks)

-- two cuttings of one stream, on sheets that started alike, with a finish in both or in neither, come to the same
abbrev pub CutsAlike : Type 0
CutsAlike = (m n : Meaning) (ks ls : List Call) → m ≡ n → stream ks ≡ stream ls → finishes ks ≡ finishes ls → SameOutcome (played m ks) (played n ls)
