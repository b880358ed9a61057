use Rattle.std.proofs.Common.{refl}
use Rattle.std.specs.Fmt.{digits}
use Rattle.mark.specs.Covers.{line_inks, covers}
use Rattle.printing.proofs.worked.print_sample.Goals as goal

pub returns : goal.returns
unfolding digits line_inks covers
returns c = record { drawn = refl; refused = refl }
