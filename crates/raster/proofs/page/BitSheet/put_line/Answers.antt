use Rattle.std.proofs.Common.{◌≡◌, ◌+◌, suc, sym, subst, arith}
use Rattle.std.proofs.lemmas.Bool.{and_left}
use Rattle.geometry.specs.Lines.{steps_of, point_of}
use Rattle.mark.specs.Covers.{line_inks, line_inks_at, inks_point, same_pixel}
use Rattle.raster.specs.declared.page.BitSheet.{BitSheet}
use Rattle.raster.proofs.Inking.{SoFar, part_more, part_passed, parts_end, point_own}
use Rattle.raster.proofs.page.BitSheet.put_line.Goals as goal
use Rattle.raster.proofs.page.BitSheet.put_line.Goals.{then-inks, else-inks}

pub loop-k-preserved : goal.loop-k-preserved
loop-k-preserved c =
    let t = c.args.self.now in
    let p = c.args.line.from in
    let q = c.args.line.to in
    let mode = c.args.mode in
    let k = c.loop-k.k in
    elim c.if-inks.branch [
      | then-inks w ↦
          subst (λ (s : BitSheet). SoFar t (line_inks_at p q mode) s (k + 1)) (sym w.self-is)
          (part_more t (line_inks_at p q mode) k c.loop-k.self w.put.new.self (same_pixel w.point.result) (point_own p q mode k w.point.result (sym w.if-inks.ensures) w.point.ensures) w.put.ensures c.loop-k.invariant)
      | else-inks w ↦
          subst (λ (s : BitSheet). SoFar t (line_inks_at p q mode) s (k + 1)) (sym w.self-is)
          (part_passed t (line_inks_at p q mode) k c.loop-k.self (λ v. and_left (inks_point mode k) (same_pixel (point_of p q k) v) (sym w.if-inks.ensures)) c.loop-k.invariant)
    ]

pub returns : goal.returns
unfolding line_inks
returns c =
    let p = c.args.line.from in
    let q = c.args.line.to in
    let all : c.loop-k.k ≡ suc (steps_of p q) = omega (arith, c.points-k-end.ensures, c.loop-k.auto.k-end, c.loop-k-test.false) in
    parts_end c.args.self.now (line_inks_at p q c.args.mode) c.loop-k.k c.loop-k.self (suc (steps_of p q)) all c.loop-k.invariant
