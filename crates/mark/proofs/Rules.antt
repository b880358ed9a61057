-- The rules of coverage.
use Rattle.std.proofs.Common.{◌≡◌, ℕ, ◌-◌, ◌/◌, ◌%◌, ◌^◌, false, ◌&&◌, eqb, ltb, leb, ℤ, ap, ◌∙◌, inl, inr}
use native.Mathlib.Nat.{zero-div}
use Rattle.std.proofs.lemmas.Bool.{and_left, and_right, lt-leb}
use Rattle.geometry.specs.declared.field.Point.{Point}
use Rattle.font.specs.Glyphs.{glyph_row, in_font}
use Rattle.mark.specs.declared.Mark.{Mark}
use Rattle.mark.specs.Covers.{has_dot, letter_inks, letter_inks_at, letter_dot, same_pixel, any_below, covers, on_sheet, reaches}
use Rattle.mark.specs.Rules.{Lacks, Rules}
use Rattle.mark.proofs.Any.{none_all}

outside : (code row : ℕ) → Lacks code → in_font code row ≡ false
outside code row (inl h) = and_left (leb 32 code) (leb code 126 && ltb row 8) (lt-leb 32 code h)
outside code row (inr h) = and_right (leb 32 code) (leb code 126 && ltb row 8) (and_left (leb code 126) (ltb row 8) (lt-leb code 126 h))

blank_row : (code row : ℕ) → Lacks code → glyph_row code row ≡ 0
blank_row code row h = rw (outside code row h)

no_dot : (code row column : ℕ) → Lacks code → has_dot code row column ≡ false
no_dot code row column h =
    and_right (ltb column 5) (eqb (glyph_row code row / 2 ^ (4 - column) % 2) 1)
    (ap (λ (b : ℕ). eqb (b / 2 ^ (4 - column) % 2) 1) (blank_row code row h) ∙ ap (λ (b : ℕ). eqb (b % 2) 1) (zero-div (2 ^ (4 - column))))

no_letter : (n : ℕ) (at : Point) (code : ℕ) (z : ℤ × ℤ) → Lacks code → letter_inks n at code z ≡ false
unfolding letter_inks
no_letter n at code z h =
    none_all (λ row. any_below (letter_inks_at n at code z row) 5) 8
    (λ row. none_all (letter_inks_at n at code z row) 5
    (λ column. and_left (has_dot code row column) (same_pixel (letter_dot n at row column) z) (no_dot code row column h)))

-- a mark covers no pixel off the sheet
pub off_sheet : (n : ℕ) (m : Mark) (z : ℤ × ℤ) → on_sheet n z ≡ false → covers n m z ≡ false
unfolding covers
off_sheet n m z off = and_left (on_sheet n z) (reaches n m z) off

pub rules : Rules
rules = record { off = off_sheet; lacking = no_letter }
