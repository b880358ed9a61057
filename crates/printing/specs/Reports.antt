-- The line that tells of a run.
use Rattle.std.specs.Prelude.{ℕ, List, [], ◌∷◌, ◌++◌, codes, decimal}
use Rattle.std.specs.Fmt.{signed_decimal}
use Rattle.run.specs.declared.types.Life.{Life}
use Rattle.run.specs.declared.types.Life.TheVariants.{Live, Closed, Refused}
use Rattle.run.specs.declared.types.Report.{Report}
use Rattle.run.specs.declared.types.Spot.{Spot}
use Rattle.run.specs.Faults.{number_of}

abbrev pub no_spot : Spot
no_spot = record { calls = 0; offset = 0 }

-- the line, of a fault with this number, place and spot
abbrev pub line_of : Report → ℕ → ℕ → Spot → List ℕ
line_of r number place spot =
    codes "read " ++ (decimal r.read ++ (codes " pictures " ++ (decimal r.pictures ++ (codes " statements " ++ (decimal r.statements
    ++ (codes " beam " ++ (signed_decimal r.beam.x ++ (codes " " ++ (signed_decimal r.beam.y ++ (codes " fault " ++ (decimal number ++ (codes " at " ++ (decimal place
    ++ (codes " in " ++ (decimal spot.calls ++ (codes " " ++ (decimal spot.offset ++ (10 ∷ []))))))))))))))))))

abbrev pub line_by : Life → Report → List ℕ
line_by Live r = line_of r 0 0 no_spot
line_by Closed r = line_of r 0 0 no_spot
line_by (Refused f) r = line_of r (number_of f.fault) f.place f.spot

-- the line of a report; a run that is not refused has zeros for its fault
abbrev pub report_line : Report → List ℕ
report_line r = line_by r.life r
