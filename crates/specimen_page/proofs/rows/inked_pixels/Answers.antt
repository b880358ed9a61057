use Rattle.std.proofs.Common.{rules, tests, arith}
use Rattle.std.proofs.lemmas.Iterator.{YieldsList-from_range}
use Rattle.std.proofs.lemmas.List.FromFn.{length-range_with_len}
use Rattle.std.proofs.lemmas.Iterator.Adapters.{fits_from_length, at_most_from_yields_List}
use Rattle.specimen_page.proofs.rows.inked_pixels.Goals as goal

pub sum-requires-clause-fits : goal.sum-requires-clause-fits
sum-requires-clause-fits g c = fits_from_length _ _ 2048 _ (at_most_from_yields_List (YieldsList-from_range 0 c.pixels.result c.pixels.result (cc) (omega arith)) (omega (arith, length-range_with_len 0 c.pixels.result, c.side.result.most, c.pixels.ensures))) c.map.ensures.closure (omega arith) (λ x r q k. search (rules, tests))
