-- What coverage keeps to.
use Rattle.std.specs.Prelude.{◌≡◌, ℕ, ◌<◌, false, ◌⊎◌, ℤ}
use Rattle.geometry.specs.declared.field.Point.{Point}
use Rattle.mark.specs.declared.Mark.{Mark}
use Rattle.mark.specs.Covers.{covers, on_sheet, letter_inks}

-- the font has no glyph for the code
abbrev pub Lacks : ℕ → Type 0
Lacks code = (code < 32) ⊎ (126 < code)

pub record Rules : Type 0 where
  -- no mark covers a pixel off the sheet
  pub off : (n : ℕ) (m : Mark) (z : ℤ × ℤ) → on_sheet n z ≡ false → covers n m z ≡ false
  -- a letter that the font lacks inks nothing
  pub lacking : (n : ℕ) (at : Point) (code : ℕ) (z : ℤ × ℤ) → Lacks code → letter_inks n at code z ≡ false
