-- Worked cases.
use Rattle.std.specs.Prelude.{◌≡◌, ℕ, List, [], ◌∷◌, ◌++◌, pos, negsuc, None, codes}
use Rattle.std.specs.List.{flat_map}
use Rattle.sheet.specs.Meanings.{blank}
use Rattle.run.specs.declared.types.Fault.TheVariants.{TooDeep}
use Rattle.run.specs.declared.types.Life.TheVariants.{Refused}
use Rattle.run.specs.declared.types.Report.{Report}
use Rattle.run.specs.Runs.{Config, begun, run, report_of}
use Rattle.printing.specs.Reports.{report_line}
use Rattle.printing.specs.Prints.{printed}

-- ERASE, MOVEA to the lower left corner, DRAWA to the upper right one, DOTA in the middle of the lower edge, ENDPIC
abbrev pub crossing : List ℕ
crossing = 1 ∷ 2 ∷ 0xC0 ∷ 0x00 ∷ 0xC0 ∷ 0x00 ∷ 4 ∷ 0x3F ∷ 0xFF ∷ 0x3F ∷ 0xFF ∷ 6 ∷ 0x00 ∷ 0x00 ∷ 0xC0 ∷ 0x00 ∷ 10 ∷ []

-- what is printed where a run stands
abbrev pub printed_at : Config → List ℕ
printed_at c = printed c.drawing.ink.sheet (report_of c)

-- a ninth open call
abbrev pub deep : Report
deep = record {
  read = 312;
  pictures = 2;
  statements = 10;
  beam = record { x = negsuc 0; y = pos 32767 };
  life = Refused (record { fault = TooDeep; place = 300; spot = record { calls = 8; offset = 37 } });
}

abbrev pub ended : List ℕ → List ℕ
ended line = line ++ (10 ∷ [])

pub record Worked : Type 0 where
  -- a line and a dot on a sheet of 8 pixels
  pub drawn : printed_at (run (begun (blank 8 None)) crossing) ≡ flat_map ended (
      codes ".......#"
      ∷ codes "......#."
      ∷ codes ".....#.."
      ∷ codes "....#..."
      ∷ codes "...#...."
      ∷ codes "..#....."
      ∷ codes ".#......"
      ∷ codes "#...#..."
      ∷ codes "read 17 pictures 1 statements 3 beam 0 -16384 fault 0 at 0 in 0 0"
      ∷ []
      )
  -- a refusal in the bodies of calls
  pub refused : report_line deep ≡ ended (codes "read 312 pictures 2 statements 10 beam -1 32767 fault 13 at 300 in 8 37")
