-- How large sums, products and quotients of signed numbers get: the size of a number is its nat_abs.
use Rattle.std.proofs.Common.{◌≡◌, ℕ, zero, suc, ◌+◌, ◌*◌, ◌^◌, ◌<◌, ◌≤◌, ℤ, pos, negsuc, ◌+ℤ◌, ◌-ℤ◌, ◌*ℤ◌, neg_ℤ, nat_abs, ◌≤ℤ◌, refl, le_trans, suc-mul, arith, lit<, lit≤, w16, SFits}
use mir.Val.{hbits}
use mir.Syntax.{Width}
use Rattle.std.proofs.lemmas.Nat.{mul-le, div_below}
use Rattle.std.proofs.lemmas.Int.{ints}
use Rattle.geometry.specs.Floors.{floor_div}
use Rattle.geometry.specs.Places.{place, pixel_of}
use Rattle.geometry.specs.Lines.{rounded, Near}

-- a size bounds a number on both sides
pub within : (z : ℤ) (a : ℕ) → nat_abs z ≤ a → (neg_ℤ (pos a) ≤ℤ z) × (z ≤ℤ pos a)
within (pos m) a h = (omega (arith, ints), omega (arith, ints))
within (negsuc m) a h = (omega (arith, ints), omega (arith, ints))

pub size : (z : ℤ) (a : ℕ) → neg_ℤ (pos a) ≤ℤ z → z ≤ℤ pos a → nat_abs z ≤ a
size (pos m) a g h = omega (arith, ints)
size (negsuc m) a g h = omega (arith, ints)

pub size_fits : (w : Width) (z : ℤ) → nat_abs z < 2 ^ hbits w → SFits w z
size_fits w (pos m) h = record { sfits = h }
size_fits w (negsuc m) h = record { sfits = omega arith }

pub fits_size : (w : Width) (z : ℤ) → SFits w z → nat_abs z ≤ 2 ^ hbits w
fits_size w (pos m) f = omega (arith, f.sfits)
fits_size w (negsuc m) f = f.sfits

size_neg : (r : ℕ) → nat_abs (neg_ℤ (pos r)) ≡ r
size_neg zero = refl
size_neg (suc r) = refl

pub size_mul : (z : ℤ) (n : ℕ) → nat_abs (z *ℤ pos n) ≡ nat_abs z * n
size_mul (pos m) n = refl
size_mul (negsuc m) n = size_neg (suc m * n)

pub size_mul_le : (z : ℤ) (n a b : ℕ) → nat_abs z ≤ a → n ≤ b → nat_abs (z *ℤ pos n) ≤ a * b
size_mul_le z n a b h g = rw size_mul (mul-le (nat_abs z) n a b h g)

pub size_floor : (z : ℤ) (d h : ℕ) → 0 < d → nat_abs z ≤ h * d → nat_abs (floor_div z d) ≤ h
size_floor (pos m) d h p g =
    let k : m < suc h * d = simp suc-mul (omega arith) in
    omega (arith, div_below m d (suc h) p k)
size_floor (negsuc m) d h p g = div_below m d h p g

pub size_add : (z : ℤ) (n a : ℕ) → nat_abs z ≤ a → nat_abs (z +ℤ pos n) ≤ a + n
size_add z n a h =
    let w = within z a h in
    size (z +ℤ pos n) (a + n) (omega (arith, ints)) (omega (arith, ints))

-- the product of which a place is a part
pub size_scaled : (n a : ℕ) (v : ℤ) → n ≤ 2048 → nat_abs v ≤ a → nat_abs ((v +ℤ pos 16384) *ℤ pos n) ≤ (a + 16384) * 2048
size_scaled n a v h g = size_mul_le (v +ℤ pos 16384) n (a + 16384) 2048 (size_add v 16384 a g) h

pub size_place : (n a : ℕ) (v : ℤ) → n ≤ 2048 → nat_abs v ≤ a → (b : ℕ) → (a + 16384) * 2048 ≤ b * 32768 → nat_abs (place n v) ≤ b
size_place n a v h g b l = size_floor ((v +ℤ pos 16384) *ℤ pos n) 32768 b (lit< tt) (le_trans (size_scaled n a v h g) l)

-- what is rounded, and what it is rounded to
pub size_twice : (x : ℤ) (n a b : ℕ) → nat_abs x ≤ a → n ≤ b → nat_abs (pos 2 *ℤ x +ℤ pos n) ≤ 2 * a + b
size_twice x n a b h g =
    let w = within x a h in
    size (pos 2 *ℤ x +ℤ pos n) (2 * a + b) (omega (arith, ints)) (omega (arith, ints))

pub size_rounded : (n : ℕ) (m : ℤ) → 0 < n → n ≤ 20000 → nat_abs m ≤ 400000000 → nat_abs (rounded n m) ≤ 500000000
size_rounded n m p h g =
    let s = size_twice m n 400000000 20000 g h in
    size_floor (pos 2 *ℤ m +ℤ pos n) (2 * n) 500000000 (omega arith) (omega arith)

-- the ends of a line are not far apart
pub size_apart : (a c : ℤ) → nat_abs a ≤ 8192 → nat_abs c ≤ 8192 → nat_abs (c -ℤ a) ≤ 16384
size_apart a c h g =
    let u = within a 8192 h in
    let v = within c 8192 g in
    size (c -ℤ a) 16384 (omega (arith, ints)) (omega (arith, ints))

-- how far k steps lead, before they are rounded
pub size_steps : (a c : ℤ) (k : ℕ) → nat_abs a ≤ 8192 → nat_abs c ≤ 8192 → k ≤ 16384 → nat_abs ((c -ℤ a) *ℤ pos k) ≤ 268435456
size_steps a c k h g l = size_mul_le (c -ℤ a) k 16384 16384 (size_apart a c h g) l

-- the pixel of a point of the field is near
pub near_pixel : (n : ℕ) (x y : ℤ) → n ≤ 2048 → SFits w16 x → SFits w16 y → Near (pixel_of n x y)
near_pixel n x y h f g =
    let a = size_place n 32768 x h (fits_size w16 x f) 4096 (lit≤ tt) in
    let b = size_place n 32768 y h (fits_size w16 y g) 4096 (lit≤ tt) in
    let w = within (place n y) 4096 b in
    (omega arith, size (pos n -ℤ pos 1 -ℤ place n y) 8192 (omega (arith, ints)) (omega (arith, ints)))
