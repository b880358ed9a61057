-- Whether a bit sheet can be made, and what is drawn on it.
use Rattle.std.specs.Prelude.{◌≡◌, ℕ, cond, List, None, Ok, Err, Result, ◌==◌}
use Rattle.mark.specs.declared.Mark.{Mark}
use Rattle.sheet.specs.declared.refusals.Unfit.{Unfit}
use Rattle.sheet.specs.declared.refusals.Unfit.TheVariants.{Memory}
use Rattle.sheet.specs.Refusals.{sided}
use Rattle.sheet.specs.Meanings.{marked_all, blank}
use Rattle.raster.specs.Bits.{page_bytes, bit_meaning, Clean}

-- the answer to the asking for a side over memory of a length: the side is looked at first
abbrev pub asked : ℕ → ℕ → Result (Unit {0}) Unfit
asked n len = sided n (cond (len == page_bytes n) (Ok tt) (Err Memory))

-- the memory after marks are drawn on a clear page in it, by the answer: unchanged where that refuses
abbrev pub Drawn : ℕ → List Mark → List ℕ → List ℕ → Result (Unit {0}) Unfit → Type 0
Drawn n marks before after (Ok u) = (bit_meaning n after ≡ marked_all (blank n None) marks) × Clean n after
Drawn n marks before after (Err e) = after ≡ before
