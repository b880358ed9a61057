-- The marks of the specimen: three frames, a row of dots, and all letters.
use Rattle.std.specs.Prelude.{ℕ, ◌+◌, ◌*◌, ◌/◌, ◌%◌, List, [], ◌∷◌, ◌++◌, map, ℤ, pos, ◌-ℤ◌, neg_ℤ}
use Rattle.std.specs.List.{range_with_len}
use Rattle.geometry.specs.declared.field.Point.{Point}
use Rattle.mark.specs.declared.LineMode.{LineMode}
use Rattle.mark.specs.declared.LineMode.TheVariants.{Solid, Dashed, Dotted}
use Rattle.mark.specs.declared.Mark.{Mark}
use Rattle.mark.specs.declared.Mark.TheVariants.{Dot, Line, Letter}

abbrev pub point_at : ℤ → ℤ → Point
point_at x y = record { x = x; y = y }

-- the four sides of the frame from its low left corner p to its high right corner q
abbrev pub frame_of : LineMode → Point → Point → List Mark
frame_of mode p q =
    Line p (point_at q.x p.y) mode ∷ Line (point_at q.x p.y) q mode
    ∷ Line q (point_at p.x q.y) mode ∷ Line (point_at p.x q.y) p mode ∷ []

abbrev pub solid_frame : List Mark
solid_frame = frame_of Solid (point_at (neg_ℤ (pos 4800)) (neg_ℤ (pos 1800))) (point_at (pos 4800) (pos 2100))

abbrev pub dashed_frame : List Mark
dashed_frame = frame_of Dashed (point_at (neg_ℤ (pos 5100)) (neg_ℤ (pos 2100))) (point_at (pos 5100) (pos 2400))

abbrev pub dotted_frame : List Mark
dotted_frame = frame_of Dotted (point_at (neg_ℤ (pos 5400)) (neg_ℤ (pos 2400))) (point_at (pos 5400) (pos 2700))

-- a frame of each mode, one about the other
unfoldable pub frames_of : List Mark
frames_of = (solid_frame ++ dashed_frame) ++ dotted_frame

-- five dots below the letters
abbrev pub dot_row : List Mark
dot_row =
    Dot (point_at (neg_ℤ (pos 600)) (neg_ℤ (pos 1500))) ∷ Dot (point_at (neg_ℤ (pos 300)) (neg_ℤ (pos 1500))) ∷ Dot (point_at (pos 0) (neg_ℤ (pos 1500)))
    ∷ Dot (point_at (pos 300) (neg_ℤ (pos 1500))) ∷ Dot (point_at (pos 600) (neg_ℤ (pos 1500))) ∷ []

-- the letter k, of the code 32 + k: 19 to a line
abbrev pub letter_at : ℕ → Mark
letter_at k = Letter (point_at (pos (450 * (k % 19)) -ℤ pos 4200) (pos 1200 -ℤ pos (600 * (k / 19)))) (32 + k)

-- every letter that the font has
unfoldable pub all_letters : List Mark
all_letters = map letter_at (range_with_len 0 95)

-- everything, in the order in which it is drawn
unfoldable pub specimen_marks : List Mark
specimen_marks = (frames_of ++ dot_row) ++ all_letters
