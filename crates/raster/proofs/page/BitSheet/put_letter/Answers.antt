use Rattle.std.proofs.Common.{◌≡◌, refl, arith}
use Rattle.mark.specs.Covers.{any_below, letter_inks_at, letter_inks}
use Rattle.raster.proofs.Inking.{part_more, parts_end}
use Rattle.raster.proofs.page.BitSheet.put_letter.Goals as goal

pub loop-row-preserved : goal.loop-row-preserved
loop-row-preserved c =
    let m = c.args.letter.side.pixels in
    let at = c.args.letter.at in
    let code = c.args.letter.code in
    let k = c.loop-row.row in
    part_more c.args.self.now (λ w row. any_below (letter_inks_at m at code w row) 5) k c.loop-row.self c.put_row.new.self (λ w. any_below (letter_inks_at m at code w k) 5) (λ w. refl) c.put_row.ensures c.loop-row.invariant

pub returns : goal.returns
unfolding letter_inks
returns c =
    let all : c.loop-row.row ≡ 8 = omega (arith, c.loop-row.auto.row-end, c.loop-row-test.false) in
    parts_end c.args.self.now (λ w row. any_below (letter_inks_at c.args.letter.side.pixels c.args.letter.at c.args.letter.code w row) 5) c.loop-row.row c.loop-row.self 8 all c.loop-row.invariant
