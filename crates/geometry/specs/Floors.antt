-- Division of whole numbers that rounds down.
use Rattle.std.specs.Prelude.{ℕ, ◌<◌, ℤ, pos, ◌+ℤ◌, ◌*ℤ◌, ◌≤ℤ◌, ◌<ℤ◌}
use Rattle.std.specs.Int.{int_div_euclid}

-- floor(z / d)
abbrev pub floor_div : ℤ → ℕ → ℤ
floor_div z d = int_div_euclid z (pos d)

-- floor_div is the floor: its product with d does not exceed z, and that of one more does
pub record Floor : Type 0 where
  pub low : (z : ℤ) (d : ℕ) → 0 < d → (floor_div z d *ℤ pos d) ≤ℤ z
  pub high : (z : ℤ) (d : ℕ) → 0 < d → z <ℤ ((floor_div z d +ℤ pos 1) *ℤ pos d)
