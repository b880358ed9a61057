use Rattle.std.proofs.Common.{sym, ◌∙◌, arith}
use Rattle.printing.proofs.Rows.{page_counted, small_page}
use Rattle.printing.proofs.page.page_room.Goals as goal

pub returns : goal.returns
returns c = record {
  value = λ m s. page_counted m c.pixels-side.result (s ∙ sym c.pixels-side.ensures);
  bound = small_page c.pixels-side.result (omega (arith, c.pixels-side.ensures, c.args.side.most));
}
