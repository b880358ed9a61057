-- Lists of calls, and what they come to.
use Rattle.std.specs.Prelude.{◌≡◌, ℕ, ◌<◌, List, map}
use Rattle.std.specs.List.{AllByRecursion}
use Rattle.sheet.specs.Meanings.{Meaning}
use Rattle.run.specs.declared.types.Report.{Report}
use Rattle.run.specs.Runs.{Config, report_of, begun}
use Rattle.reader.specs.declared.reader.Reader.{Reader}
use Rattle.reader.specs.Views.{config_of}
use Rattle.run.specs.Cuttings.{Call, feed, finishing, reporting, stream, finishes, outcome}
use Rattle.play.specs.declared.list.Call.{Call as Asked}
use Rattle.play.specs.declared.list.Call.TheVariants as asked

abbrev pub call_of : Asked → Call
call_of (asked.Feed p) = feed p.now
call_of asked.Finish = finishing
call_of asked.Report = reporting

abbrev pub calls_of : List Asked → List Call
calls_of ks = map call_of ks

-- the pieces joined, up to the first finish or else the end
abbrev pub stream_of : List Asked → List ℕ
stream_of ks = stream (calls_of ks)

-- the run of that stream, and of its finish if there is one, from a new reader and a sheet of this meaning
abbrev pub comes_to : Meaning → List Asked → Config
comes_to m ks = outcome m (stream_of ks) (finishes (calls_of ks))

-- a reader that was made and not yet called
abbrev pub New : Reader → Type 0
New r = (m : Meaning) → config_of r m ≡ begun m

-- a sheet of this meaning and this report are what is left of it
pub record Ends (c : Config) (m : Meaning) (r : Report) : Type 0 where
  pub sheet : m ≡ c.drawing.ink.sheet
  pub report : r ≡ report_of c

-- what is fed is bytes
abbrev pub HasBytes : Call → Type 0
HasBytes (feed p) = AllByRecursion (λ b. b < 256) p
HasBytes finishing = Unit {0}
HasBytes reporting = Unit {0}
