-- The worked cases compute.
use Rattle.std.proofs.Common.{refl}
use Rattle.run.specs.Worked.{Worked}

pub worked : Worked
worked = record {
  places = refl;
  line = refl;
  short_count = refl;
  least_count = refl;
  longest = refl;
  too_long = refl;
  delta = refl;
  edge = refl;
  past_edge = refl;
  stays = refl;
  wraps = refl;
  unknown = refl;
  no_ink = refl;
  marks = refl;
  one_more = refl;
}
