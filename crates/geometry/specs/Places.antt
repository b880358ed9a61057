-- Where a point of the field lies on a sheet of n by n pixels.
use Rattle.std.specs.Prelude.{ℕ, ℤ, pos, ◌+ℤ◌, ◌-ℤ◌, ◌*ℤ◌}
use Rattle.geometry.specs.declared.field.Point.{Point}
use Rattle.geometry.specs.Floors.{floor_div}

-- how many pixels lie to the left of the coordinate v, or below it: floor((v + 16384) * n / 32768)
abbrev pub place : ℕ → ℤ → ℤ
place n v = floor_div ((v +ℤ pos 16384) *ℤ pos n) 32768

-- the pixel of the place (x, y): its column, and its row, of which row 0 is at the top
abbrev pub pixel_of : ℕ → ℤ → ℤ → ℤ × ℤ
pixel_of n x y = (place n x, pos n -ℤ pos 1 -ℤ place n y)

-- the pixel of a point of the field
abbrev pub point_pixel : ℕ → Point → ℤ × ℤ
point_pixel n p = pixel_of n p.x p.y
