use Rattle.std.proofs.Common.{◌≡◌, ℕ, ◌≤◌, ℤ, pos, ◌+ℤ◌, ◌-ℤ◌, ◌*ℤ◌, nat_abs, sym, ap, ◌∙◌, subst, le_trans, lt_of_le_of_lt, arith, lit<, lit≤, w32, SFits, to_z, of_z, rules}
use Rattle.std.proofs.lemmas.Int.{ints, to_z-of_z}
use Rattle.geometry.specs.Lines.{rounded}
use Rattle.geometry.proofs.Sizes.{within, size_steps, size_fits}
use Rattle.geometry.proofs.lines.step_between.Goals as goal

module _ (a c : ℤ) (k : ℕ) (h : nat_abs a ≤ 8192) (g : nat_abs c ≤ 8192) (l : k ≤ 16384) where
  -- the product as the code has it
  product : to_z w32 (of_z w32 (to_z w32 (of_z w32 c) -ℤ to_z w32 (of_z w32 a))) *ℤ to_z w32 k ≡ (c -ℤ a) *ℤ pos k
  product =
      let u = within a 8192 h in
      let v = within c 8192 g in
      let d : to_z w32 (of_z w32 (to_z w32 (of_z w32 c) -ℤ to_z w32 (of_z w32 a))) ≡ c -ℤ a = omega (arith, ints) in
      let s : to_z w32 k ≡ pos k = omega (arith, ints) in
      λ i. d i *ℤ s i

  product_fits : SFits w32 ((c -ℤ a) *ℤ pos k)
  product_fits = size_fits w32 ((c -ℤ a) *ℤ pos k) (lt_of_le_of_lt (size_steps a c k h g l) (lit< tt))

  -- the product as it is passed on
  passed : to_z w32 (of_z w32 (to_z w32 (of_z w32 (to_z w32 (of_z w32 c) -ℤ to_z w32 (of_z w32 a))) *ℤ to_z w32 k)) ≡ (c -ℤ a) *ℤ pos k
  passed = ap (λ (z : ℤ). to_z w32 (of_z w32 z)) product ∙ to_z-of_z w32 ((c -ℤ a) *ℤ pos k) product_fits

pub overflow_mul-c : goal.overflow_mul-c
overflow_mul-c t =
    let l : t.args.k ≤ 16384 = omega arith in
    subst (λ (z : ℤ). SFits w32 z) (sym (product t.args.a t.args.c t.args.k t.requires.0 t.requires.1.0 l))
    (product_fits t.args.a t.args.c t.args.k t.requires.0 t.requires.1.0 l)

pub nearest-requires : goal.nearest-requires
nearest-requires t =
    let l : t.args.k ≤ 16384 = omega arith in
    let e = passed t.args.a t.args.c t.args.k t.requires.0 t.requires.1.0 l in
    let s = size_steps t.args.a t.args.c t.args.k t.requires.0 t.requires.1.0 l in
    (search rules, (omega arith, subst (λ (z : ℤ). nat_abs z ≤ 400000000) (sym e) (le_trans s (lit≤ tt))))

pub returns : goal.returns
returns t =
    let l : t.args.k ≤ 16384 = omega arith in
    let u = within t.args.a 8192 t.requires.0 in
    let v = within t.nearest.result 500000000 t.nearest.ensures.small in
    let sum : to_z w32 (of_z w32 (to_z w32 (of_z w32 t.args.a) +ℤ to_z w32 (of_z w32 t.nearest.result))) ≡ t.args.a +ℤ t.nearest.result = omega (arith, ints) in
    let e = passed t.args.a t.args.c t.args.k t.requires.0 t.requires.1.0 l in
    sum ∙ ap (λ (z : ℤ). t.args.a +ℤ z) (t.nearest.ensures.value ∙ ap (rounded t.args.n) e)
