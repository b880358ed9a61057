-- The points of a line between two pixels.
use Rattle.std.specs.Prelude.{◌≡◌, ℕ, ◌*◌, ◌≤◌, min, max, ℤ, pos, ◌+ℤ◌, ◌-ℤ◌, ◌*ℤ◌, unsigned_abs}
use Rattle.geometry.specs.Floors.{floor_div}

-- how many steps the line from p to q has: the larger of its two extents
abbrev pub steps_of : ℤ × ℤ → ℤ × ℤ → ℕ
steps_of p q = max (unsigned_abs (q.0 -ℤ p.0)) (unsigned_abs (q.1 -ℤ p.1))

-- m / n, to the nearest whole number: floor((2m + n) / 2n)
abbrev pub rounded : ℕ → ℤ → ℤ
rounded n m = floor_div (pos 2 *ℤ m +ℤ pos n) (2 * n)

-- where the k-th of n steps from a to c comes to
abbrev pub along : ℤ → ℤ → ℕ → ℕ → ℤ
along a c n k = a +ℤ rounded n ((c -ℤ a) *ℤ pos k)

-- where k steps from p to q come to; with no steps that is p, since a quotient by 0 is 0
abbrev pub stepped : ℤ × ℤ → ℤ × ℤ → ℕ → ℤ × ℤ
stepped p q k = (along p.0 q.0 (steps_of p q) k, along p.1 q.1 (steps_of p q) k)

-- the point k of the line, which is its last point where k is past its steps
abbrev pub point_of : ℤ × ℤ → ℤ × ℤ → ℕ → ℤ × ℤ
point_of p q k = stepped p q (min k (steps_of p q))

-- a line goes from its first end to its last, also where the two are one
pub record Ends : Type 0 where
  pub first : (p q : ℤ × ℤ) → point_of p q 0 ≡ p
  pub last : (p q : ℤ × ℤ) → point_of p q (steps_of p q) ≡ q
  pub between : (p q : ℤ × ℤ) (k : ℕ) → k ≤ steps_of p q → point_of p q k ≡ stepped p q k

-- near enough that the sums and products of a line's points are small; pixels of points of the field are
abbrev pub Near : ℤ × ℤ → Type 0
Near p = (unsigned_abs p.0 ≤ 8192) × (unsigned_abs p.1 ≤ 8192)
