-- Which pixels a mark covers on a sheet of n by n pixels.
use Rattle.std.specs.Prelude.{ℕ, zero, suc, ◌-◌, ◌*◌, ◌/◌, ◌%◌, ◌^◌, Bool, true, false, ◌&&◌, ◌||◌, ℤ, pos, ◌+ℤ◌, ◌-ℤ◌, ◌*ℤ◌, ◌==◌, int_le, int_lt, nat_lt}
use Rattle.std.specs.Ordering.{int_eq}
use Rattle.geometry.specs.declared.field.Point.{Point}
use Rattle.geometry.specs.Places.{pixel_of, point_pixel}
use Rattle.geometry.specs.Lines.{steps_of, point_of}
use Rattle.font.specs.Glyphs.{glyph_row}
use Rattle.mark.specs.declared.LineMode.{LineMode}
use Rattle.mark.specs.declared.LineMode.TheVariants.{Solid, Dashed, Dotted}
use Rattle.mark.specs.declared.Mark.{Mark}
use Rattle.mark.specs.declared.Mark.TheVariants.{Dot, Line, Letter}

-- some number below n passes the test
abbrev pub any_below : (ℕ → Bool) → ℕ → Bool
any_below test zero = false
any_below test (suc n) = test n || any_below test n

-- both parts of the pixels are equal
abbrev pub same_pixel : ℤ × ℤ → ℤ × ℤ → Bool
same_pixel p q = int_eq p.0 q.0 && int_eq p.1 q.1

-- both parts of the pixel are 0 to n - 1
abbrev pub on_sheet : ℕ → ℤ × ℤ → Bool
on_sheet n z = int_le (pos 0) z.0 && (int_lt z.0 (pos n) && (int_le (pos 0) z.1 && int_lt z.1 (pos n)))

-- a line of this mode inks its point k
abbrev pub inks_point : LineMode → ℕ → Bool
inks_point Solid k = true
inks_point Dashed k = nat_lt (k % 12) 8
inks_point Dotted k = k % 4 == 0

-- the line between the pixels p and q inks the pixel z by its point k
abbrev pub line_inks_at : ℤ × ℤ → ℤ × ℤ → LineMode → ℤ × ℤ → ℕ → Bool
line_inks_at p q mode z k = inks_point mode k && same_pixel (point_of p q k) z

-- the line between the pixels p and q inks the pixel z
unfoldable pub line_inks : ℤ × ℤ → ℤ × ℤ → LineMode → ℤ × ℤ → Bool
line_inks p q mode z = any_below (line_inks_at p q mode z) (suc (steps_of p q))

-- the glyph of the code has a dot at this row and column: the bit worth 16 is column 0
abbrev pub has_dot : ℕ → ℕ → ℕ → Bool
has_dot code row column = nat_lt column 5 && glyph_row code row / 2 ^ (4 - column) % 2 == 1

-- the pixel of the dot of a letter: dots lie 75 apart, and row 6 stands at the letter's point
abbrev pub letter_dot : ℕ → Point → ℕ → ℕ → ℤ × ℤ
letter_dot n at row column = pixel_of n (at.x +ℤ pos (75 * column)) (at.y +ℤ pos 75 *ℤ (pos 6 -ℤ pos row))

-- a letter inks the pixel z by its dot at this row and column
abbrev pub letter_inks_at : ℕ → Point → ℕ → ℤ × ℤ → ℕ → ℕ → Bool
letter_inks_at n at code z row column = has_dot code row column && same_pixel (letter_dot n at row column) z

-- a letter inks the pixel z by a dot in the rows above this one
abbrev pub rows_ink : ℕ → Point → ℕ → ℤ × ℤ → ℕ → Bool
rows_ink n at code z rows = any_below (λ row. any_below (letter_inks_at n at code z row) 5) rows

-- a letter inks the pixel z
unfoldable pub letter_inks : ℕ → Point → ℕ → ℤ × ℤ → Bool
letter_inks n at code z = rows_ink n at code z 8

-- the mark reaches the pixel z, on the sheet or off it
abbrev pub reaches : ℕ → Mark → ℤ × ℤ → Bool
reaches n (Dot at) z = same_pixel (point_pixel n at) z
reaches n (Line from to mode) z = line_inks (point_pixel n from) (point_pixel n to) mode z
reaches n (Letter at code) z = letter_inks n at code z

-- the mark covers the pixel z: one off the sheet is never covered
unfoldable pub covers : ℕ → Mark → ℤ × ℤ → Bool
covers n m z = on_sheet n z && reaches n m z
