use Rattle.std.proofs.Common.{◌≡◌, ◌*◌, ◌≤◌, ℤ, pos, ◌+ℤ◌, ◌*ℤ◌, nat_abs, sym, ◌∙◌, subst, arith, w32, to_z, of_z, rules}
use Rattle.std.specs.Int.{int_div_euclid}
use Rattle.std.proofs.lemmas.Int.{ints, to_z-of_z}
use Rattle.geometry.specs.Lines.{rounded}
use Rattle.geometry.proofs.Sizes.{within, size_rounded}
use Rattle.geometry.proofs.lines.nearest.Goals as goal

pub returns : goal.returns
returns c =
    let m = c.args.m in
    let n = c.args.n in
    let w = within m 400000000 c.requires.1.1 in
    let over : to_z w32 (of_z w32 (to_z w32 (of_z w32 (pos 2 *ℤ to_z w32 (of_z w32 m))) +ℤ to_z w32 n)) ≡ pos 2 *ℤ m +ℤ pos n = omega (arith, ints) in
    let under : to_z w32 (of_z w32 (pos 2 *ℤ to_z w32 n)) ≡ pos (2 * n) = omega (arith, ints) in
    let is : to_z w32 (of_z w32 c.div_euclid.result) ≡ rounded n m =
    to_z-of_z w32 c.div_euclid.result (search rules) ∙ c.div_euclid.ensures ∙ (λ i. int_div_euclid (over i) (under i)) in
    record {
      value = is;
      small = subst (λ (z : ℤ). nat_abs z ≤ 500000000) (sym is) (size_rounded n m c.requires.0 c.requires.1.0 c.requires.1.1);
    }
