-- Worked cases.
use Rattle.std.specs.Prelude.{◌≡◌, ℕ, false, List, [], ◌∷◌, map, replicate, ℤ, pos, negsuc, None}
use Rattle.geometry.specs.Places.{place}
use Rattle.geometry.specs.Lines.{point_of}
use Rattle.sheet.specs.Meanings.{Meaning}
use Rattle.statement.specs.declared.types.Fault.TheVariants as unread
use Rattle.statement.specs.declared.types.Standing.TheVariants.{Picture}
use Rattle.statement.specs.Reading.{more, refused, reading, found, wrong, count}
use Rattle.run.specs.declared.types.Fault.TheVariants as fault
use Rattle.run.specs.declared.types.Life.TheVariants.{Live, Refused}
use Rattle.run.specs.Inks.{point}
use Rattle.run.specs.Runs.{Config, begun, run, refusal_at}

-- a blank sheet of 512 pixels with no stock
abbrev pub blank_sheet : Meaning
blank_sheet = record { side = 512; inked = λ z. false; stock = None; full = None }

-- the run of these bytes from a new reader
abbrev pub ran : List ℕ → Config
ran bs = run (begun blank_sheet) bs

abbrev second : ℤ × ℤ → ℤ
second p = p.1

pub record Worked : Type 0 where
  -- where coordinates lie on a sheet of 512 pixels
  pub places : map (place 512) (negsuc 16384 ∷ negsuc 16383 ∷ negsuc 0 ∷ pos 0 ∷ pos 16383 ∷ []) ≡ (negsuc 0 ∷ pos 0 ∷ pos 255 ∷ pos 256 ∷ pos 511 ∷ [])
  -- the rows of the line from (0, 0) to (4, 2)
  pub line : map (λ k. second (point_of (pos 0, pos 0) (pos 4, pos 2) k)) (0 ∷ 1 ∷ 2 ∷ 3 ∷ 4 ∷ []) ≡ (pos 0 ∷ pos 1 ∷ pos 1 ∷ pos 2 ∷ pos 2 ∷ [])
  -- a count of two bytes is at least 128
  pub short_count : count (0x80 ∷ 0x7F ∷ []) ≡ wrong unread.ShortCount
  pub least_count : count (0x80 ∷ 0x80 ∷ []) ≡ found 128 []
  -- a text of 512 codes is taken, one of 513 refused
  pub longest : reading Picture (8 ∷ 0x82 ∷ 0x00 ∷ []) ≡ more
  pub too_long : reading Picture (8 ∷ 0x82 ∷ 0x01 ∷ []) ≡ refused unread.TooLong
  -- the delta hex 8000 is unlawful; hex 8001 from -1 reaches the edge of the field, and from -2 would leave it
  pub delta : (ran (1 ∷ 3 ∷ 0x80 ∷ 0x00 ∷ 0 ∷ 0 ∷ [])).drawing.life ≡ Refused (refusal_at (fault.Read unread.WrongCoordinate) 1)
  pub edge : (ran (1 ∷ 2 ∷ 0xFF ∷ 0xFF ∷ 0 ∷ 0 ∷ 3 ∷ 0x80 ∷ 0x01 ∷ 0 ∷ 0 ∷ [])).drawing.ink.beam ≡ point (negsuc 32767) (pos 0)
  pub past_edge : (ran (1 ∷ 2 ∷ 0xFF ∷ 0xFE ∷ 0 ∷ 0 ∷ 3 ∷ 0x80 ∷ 0x01 ∷ 0 ∷ 0 ∷ [])).drawing.life ≡ Refused (refusal_at fault.OffField 6)
  -- TEXTO of a letter at x = 15,934 stays on its line, at 15,935 it starts a new one
  pub stays : (ran (1 ∷ 2 ∷ 0x3E ∷ 0x3E ∷ 0 ∷ 0 ∷ 14 ∷ 1 ∷ 65 ∷ [])).drawing.ink.beam ≡ point (pos 16384) (pos 0)
  pub wraps : (ran (1 ∷ 2 ∷ 0x3E ∷ 0x3F ∷ 0 ∷ 0 ∷ 14 ∷ 1 ∷ 65 ∷ [])).drawing.ink.beam ≡ point (negsuc 15933) (negsuc 599)
  -- a call of an unknown name at (5, 6) moves the beam there and inks nothing
  pub unknown : (ran (1 ∷ 17 ∷ 1 ∷ 65 ∷ 5 ∷ 0x40 ∷ 0 ∷ 5 ∷ 0 ∷ 6 ∷ [])).drawing.ink.beam ≡ point (pos 5) (pos 6)
  pub no_ink : (ran (1 ∷ 17 ∷ 1 ∷ 65 ∷ 5 ∷ 0x40 ∷ 0 ∷ 5 ∷ 0 ∷ 6 ∷ [])).drawing.ink.sheet ≡ blank_sheet
  -- 64 marks are taken, the 65th is refused
  pub marks : (ran (1 ∷ replicate 64 18)).drawing.life ≡ Live
  pub one_more : (ran (1 ∷ replicate 65 18)).drawing.life ≡ Refused (refusal_at fault.MarksFull 65)
