-- Worked cases of the geometry.
use Rattle.std.specs.Prelude.{◌≡◌, [], ◌∷◌, map, ℤ, pos, negsuc}
use Rattle.geometry.specs.Places.{place}
use Rattle.geometry.specs.Lines.{point_of}

abbrev second_part : ℤ × ℤ → ℤ
second_part p = p.1

pub record Cases : Type 0 where
  -- at 512 pixels the coordinates -16385, -16384, -1, 0 and 16383 have -1, 0, 255, 256 and 511 pixels before them
  pub places : map (place 512) (negsuc 16384 ∷ negsuc 16383 ∷ negsuc 0 ∷ pos 0 ∷ pos 16383 ∷ []) ≡ (negsuc 0 ∷ pos 0 ∷ pos 255 ∷ pos 256 ∷ pos 511 ∷ [])
  -- the points of the line from (0, 0) to (4, 2) have the second parts 0, 1, 1, 2, 2
  pub line : map (λ k. second_part (point_of (pos 0, pos 0) (pos 4, pos 2) k)) (0 ∷ 1 ∷ 2 ∷ 3 ∷ 4 ∷ []) ≡ (pos 0 ∷ pos 1 ∷ pos 1 ∷ pos 2 ∷ pos 2 ∷ [])
