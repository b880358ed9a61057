use Rattle.std.proofs.Common.{ℤ, sym, subst, rules}
use Rattle.geometry.specs.Lines.{Near}
use Rattle.geometry.proofs.Sizes.{near_pixel}
use Rattle.geometry.proofs.lines.end_of.Goals as goal

pub returns-clause-near : goal.returns-clause-near
returns-clause-near c =
    let s = c.args.side in
    let p = c.args.point in
    subst (λ (z : ℤ × ℤ). Near z) (sym c.pixel_of.ensures) (near_pixel s.pixels p.x p.y s.most (search rules) (search rules))
