-- The laws of floor division, and of a line's ends.
use Rattle.std.proofs.Common.{◌≡◌, ℕ, zero, suc, ◌+◌, ◌-◌, ◌*◌, ◌/◌, ◌<◌, ◌≤◌, min, ℤ, pos, negsuc, ◌+ℤ◌, ◌-ℤ◌, ◌*ℤ◌, neg_ℤ, nat_abs, ◌≤ℤ◌, ◌<ℤ◌, sym, refl, ap, ◌∙◌, subst, suc-mul, mul_comm, mul-zero, zero-mul, mul_left_comm, add-one, arith}
use Rattle.std.proofs.lemmas.Nat.{div-add-mod', mod_below, div-mul-add}
use Rattle.std.proofs.lemmas.Int.{ints}
use Rattle.geometry.specs.Floors.{floor_div, Floor}
use Rattle.geometry.specs.Lines.{steps_of, rounded, along, stepped, point_of, Ends}

neg_suc : (k : ℕ) → negsuc k +ℤ pos 1 ≡ neg_ℤ (pos k)
neg_suc k = omega (arith, ints)

neg_mul : (k d : ℕ) → neg_ℤ (pos k) *ℤ pos d ≡ neg_ℤ (pos (k * d))
neg_mul zero d = let z = zero-mul d in omega (arith, ints, z)
neg_mul (suc k) d = refl

floor_low : (z : ℤ) (d : ℕ) → 0 < d → (floor_div z d *ℤ pos d) ≤ℤ z
floor_low (pos a) d h = let e = div-add-mod' a d in omega (arith, ints, e)
floor_low (negsuc a) d h =
    let e = div-add-mod' a d in
    let m = mod_below a d h in
    let s = suc-mul (a / d) d in
    omega (arith, ints, e, m, s)

floor_high : (z : ℤ) (d : ℕ) → 0 < d → z <ℤ ((floor_div z d +ℤ pos 1) *ℤ pos d)
floor_high (pos a) d h =
    let e = div-add-mod' a d in
    let m = mod_below a d h in
    let s = suc-mul (a / d) d in
    let t : (a / d + 1) * d ≡ suc (a / d) * d = ap (λ (k : ℕ). k * d) (add-one (a / d)) in
    omega (arith, ints, e, m, s, t)
floor_high (negsuc a) d h =
    let e = div-add-mod' a d in
    let q : (negsuc (a / d) +ℤ pos 1) *ℤ pos d ≡ neg_ℤ (pos (a / d * d)) = ap (λ (z : ℤ). z *ℤ pos d) (neg_suc (a / d)) ∙ neg_mul (a / d) d in
    let less : negsuc a <ℤ neg_ℤ (pos (a / d * d)) = omega (arith, ints, e) in
    subst (λ (z : ℤ). negsuc a <ℤ z) (sym q) less

pub floors : Floor
floors = record { low = floor_low; high = floor_high }

mul_none : (d : ℤ) → d *ℤ pos 0 ≡ pos 0
mul_none (pos m) = ap pos (mul-zero m)
mul_none (negsuc m) = ap (λ (k : ℕ). neg_ℤ (pos k)) (mul-zero (suc m))

rounded_none : (n : ℕ) → rounded n (pos 0) ≡ pos 0
rounded_none zero = refl
rounded_none (suc n) =
    let w = 2 * suc n in
    let e : 2 * 0 + suc n ≡ 0 * w + suc n = omega arith in
    ap (λ (k : ℕ). pos (k / w)) e ∙ ap pos (div-mul-add 0 w (suc n) (omega arith))

-- no step leads to where the line begins
pub starts : (a c : ℤ) (n : ℕ) → along a c n 0 ≡ a
starts a c n =
    let e : rounded n ((c -ℤ a) *ℤ pos 0) ≡ pos 0 = ap (rounded n) (mul_none (c -ℤ a)) ∙ rounded_none n in
    omega (arith, ints, e)

-- d * n / n is d
rounded_whole : (n : ℕ) (d : ℤ) → 0 < n → rounded n (d *ℤ pos n) ≡ d
rounded_whole n (pos m) h =
    let w = 2 * n in
    let e : 2 * (m * n) + n ≡ m * w + n = omega (arith, mul_left_comm m 2 n) in
    ap (λ (k : ℕ). pos (k / w)) e ∙ ap pos (div-mul-add m w n (omega arith))
rounded_whole n (negsuc m) h =
    let w = 2 * n in
    let s = suc-mul m n in
    let t = mul_left_comm m 2 n in
    let e : pos 2 *ℤ neg_ℤ (pos (suc m * n)) +ℤ pos n ≡ negsuc (m * w + (n - 1)) = omega (arith, ints, s, t) in
    ap (λ (z : ℤ). floor_div z w) e ∙ ap negsuc (div-mul-add m w (n - 1) (omega arith))

-- along the larger extent each step is one pixel
pub along_up : (a c : ℤ) (n k : ℕ) → 0 < n → c -ℤ a ≡ pos n → along a c n k ≡ a +ℤ pos k
along_up a c n k h e =
    ap (λ (z : ℤ). a +ℤ rounded n (z *ℤ pos k)) e ∙ ap (λ (j : ℕ). a +ℤ rounded n (pos j)) (mul_comm n k)
    ∙ ap (λ (z : ℤ). a +ℤ z) (rounded_whole n (pos k) h)

pub along_down : (a c : ℤ) (n k : ℕ) → 0 < n → a -ℤ c ≡ pos n → along a c n k ≡ a -ℤ pos k
along_down a c n k h e =
    let d : c -ℤ a ≡ neg_ℤ (pos n) = omega (arith, ints, e) in
    let turned : neg_ℤ (pos n) *ℤ pos k ≡ neg_ℤ (pos k) *ℤ pos n = neg_mul n k ∙ ap (λ (j : ℕ). neg_ℤ (pos j)) (mul_comm n k) ∙ sym (neg_mul k n) in
    let whole : rounded n ((c -ℤ a) *ℤ pos k) ≡ neg_ℤ (pos k) = ap (λ (z : ℤ). rounded n (z *ℤ pos k)) d ∙ ap (rounded n) turned ∙ rounded_whole n (neg_ℤ (pos k)) h in
    omega (arith, ints, whole)

none_apart : (d : ℤ) → nat_abs d ≤ 0 → d ≡ pos 0
none_apart (pos m) h = ap pos (omega arith)
none_apart (negsuc m) h = absurd (omega arith)

-- all steps lead to where the line ends
pub arrives : (a c : ℤ) (n : ℕ) → nat_abs (c -ℤ a) ≤ n → along a c n n ≡ c
arrives a c zero h =
    let e = none_apart (c -ℤ a) h in
    let s = starts a c 0 in
    omega (arith, ints, e, s)
arrives a c (suc n) h =
    let e = rounded_whole (suc n) (c -ℤ a) (omega arith) in
    omega (arith, ints, e)

pub within_steps : (p q : ℤ × ℤ) (k : ℕ) → k ≤ steps_of p q → point_of p q k ≡ stepped p q k
within_steps p q k h = let e : min k (steps_of p q) ≡ k = omega arith in ap (stepped p q) e

pub ends : Ends
ends = record {
  first = λ p q.
      let n = steps_of p q in
      within_steps p q 0 (omega arith) ∙ (λ i. (starts p.0 q.0 n i, starts p.1 q.1 n i));
  last = λ p q.
      let n = steps_of p q in
      within_steps p q n (omega arith) ∙ (λ i. (arrives p.0 q.0 n (omega arith) i, arrives p.1 q.1 n (omega arith) i));
  between = within_steps;
}
