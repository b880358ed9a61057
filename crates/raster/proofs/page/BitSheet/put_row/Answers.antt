use Rattle.std.proofs.Common.{◌≡◌, ◌+◌, sym, subst, arith}
use Rattle.std.proofs.lemmas.Bool.{and_left}
use Rattle.mark.specs.Covers.{letter_inks_at, letter_dot, has_dot, same_pixel}
use Rattle.raster.specs.declared.page.BitSheet.{BitSheet}
use Rattle.raster.proofs.Inking.{SoFar, part_more, part_passed, parts_end, dot_own}
use Rattle.raster.proofs.page.BitSheet.put_row.Goals as goal
use Rattle.raster.proofs.page.BitSheet.put_row.Goals.{then-has_dot, else-has_dot}

pub loop-column-preserved : goal.loop-column-preserved
loop-column-preserved c =
    let t = c.args.self.now in
    let m = c.args.letter.side.pixels in
    let at = c.args.letter.at in
    let code = c.args.letter.code in
    let row = c.args.row in
    let k = c.loop-column.column in
    elim c.if-has_dot.branch [
      | then-has_dot w ↦
          subst (λ (s : BitSheet). SoFar t (λ v. letter_inks_at m at code v row) s (k + 1)) (sym w.self-is)
          (part_more t (λ v. letter_inks_at m at code v row) k c.loop-column.self w.put.new.self (same_pixel w.dot.result) (dot_own m at code row k w.dot.result (sym w.if-has_dot.ensures) w.dot.ensures) w.put.ensures c.loop-column.invariant)
      | else-has_dot w ↦
          subst (λ (s : BitSheet). SoFar t (λ v. letter_inks_at m at code v row) s (k + 1)) (sym w.self-is)
          (part_passed t (λ v. letter_inks_at m at code v row) k c.loop-column.self (λ v. and_left (has_dot code row k) (same_pixel (letter_dot m at row k) v) (sym w.if-has_dot.ensures)) c.loop-column.invariant)
    ]

pub returns : goal.returns
returns c =
    let all : c.loop-column.column ≡ 5 = omega (arith, c.loop-column.auto.column-end, c.loop-column-test.false) in
    parts_end c.args.self.now (λ v. letter_inks_at c.args.letter.side.pixels c.args.letter.at c.args.letter.code v c.args.row) c.loop-column.column c.loop-column.self 5 all c.loop-column.invariant
