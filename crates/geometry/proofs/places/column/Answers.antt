use Rattle.std.proofs.Common.{◌≡◌, ℕ, ◌≤◌, ℤ, pos, ◌+ℤ◌, ◌*ℤ◌, nat_abs, sym, ap, ◌∙◌, subst, lt_of_le_of_lt, arith, lit<, lit≤, w32, w64, SFits, to_z, of_z, rules}
use Rattle.std.proofs.lemmas.Int.{ints, to_z-of_z}
use Rattle.std.specs.Int.{int_div_euclid}
use Rattle.geometry.specs.Floors.{floor_div}
use Rattle.geometry.specs.Places.{place}
use Rattle.geometry.proofs.Sizes.{size_fits, fits_size, size_scaled, size_place}
use Rattle.geometry.proofs.places.column.Goals as goal

scaled_fits : (n : ℕ) (v : ℤ) → n ≤ 2048 → SFits w32 v → SFits w64 ((v +ℤ pos 16384) *ℤ pos n)
scaled_fits n v h f = size_fits w64 _ (lt_of_le_of_lt (size_scaled n 2147483648 v h (fits_size w32 v f)) (lit< tt))

-- the product as the code has it
scaled : (n p : ℕ) (v : ℤ) → p ≡ n → n ≤ 2048 → SFits w32 v → to_z w64 (of_z w64 (to_z w64 (of_z w64 (to_z w32 (of_z w32 v))) +ℤ pos 16384)) *ℤ to_z w64 p ≡ (v +ℤ pos 16384) *ℤ pos n
scaled n p v e h f =
    let a : to_z w64 (of_z w64 (to_z w64 (of_z w64 (to_z w32 (of_z w32 v))) +ℤ pos 16384)) ≡ v +ℤ pos 16384 = omega (arith, ints) in
    let b : to_z w64 p ≡ pos n = omega (arith, ints) in
    λ i. a i *ℤ b i

place_small : (n : ℕ) (v : ℤ) → n ≤ 2048 → SFits w32 v → nat_abs (place n v) ≤ 268435456
place_small n v h f = size_place n 2147483648 v h (fits_size w32 v f) 268435456 (lit≤ tt)

-- the quotient as the code has it
quotient : (n p : ℕ) (v d : ℤ) → p ≡ n → n ≤ 2048 → SFits w32 v
    → d ≡ int_div_euclid (to_z w64 (of_z w64 (to_z w64 (of_z w64 (to_z w64 (of_z w64 (to_z w32 (of_z w32 v))) +ℤ pos 16384)) *ℤ to_z w64 p))) (pos 32768)
    → d ≡ place n v
quotient n p v d e h f q =
    q
    ∙ ap (λ (z : ℤ). floor_div (to_z w64 (of_z w64 z)) 32768) (scaled n p v e h f)
    ∙ ap (λ (z : ℤ). floor_div z 32768) (to_z-of_z w64 _ (scaled_fits n v h f))

pub overflow_mul-v : goal.overflow_mul-v
overflow_mul-v c =
    let s = c.args.side in
    subst (λ (z : ℤ). SFits w64 z) (sym (scaled s.pixels c.pixels.result c.args.v c.pixels.ensures s.most c.ranges.v)) (scaled_fits s.pixels c.args.v s.most c.ranges.v)

place_fits : (n : ℕ) (v : ℤ) → n ≤ 2048 → SFits w32 v → SFits w32 (place n v)
place_fits n v h f = size_fits w32 (place n v) (lt_of_le_of_lt (place_small n v h f) (lit< tt))

answered : (c : goal.After-div_euclid) → to_z w64 (of_z w64 c.div_euclid.result) ≡ place c.args.side.pixels c.args.v
answered c =
    let s = c.args.side in
    to_z-of_z w64 c.div_euclid.result (search rules)
    ∙ quotient s.pixels c.pixels.result c.args.v c.div_euclid.result c.pixels.ensures s.most c.ranges.v c.div_euclid.ensures

pub overflow_cast-result : goal.overflow_cast-result
overflow_cast-result c = subst (λ (z : ℤ). SFits w32 z) (sym (answered c)) (place_fits c.args.side.pixels c.args.v c.args.side.most c.ranges.v)

pub returns : goal.returns
returns c =
    let s = c.args.side in
    let is : to_z w32 (of_z w32 (to_z w64 (of_z w64 c.div_euclid.result))) ≡ place s.pixels c.args.v =
    ap (λ (z : ℤ). to_z w32 (of_z w32 z)) (answered c) ∙ to_z-of_z w32 (place s.pixels c.args.v) (place_fits s.pixels c.args.v s.most c.ranges.v) in
    record { value = is; small = subst (λ (z : ℤ). nat_abs z ≤ 268435456) (sym is) (place_small s.pixels c.args.v s.most c.ranges.v) }
