-- What a bit sheet becomes when pixels are put on it.
use Rattle.std.specs.Prelude.{◌≡◌, Bool, ℤ}
use Rattle.raster.specs.declared.page.BitSheet.{BitSheet}
use Rattle.raster.specs.Bits.{Gained}

-- the sheet before, its side and its memory kept, gained the pixels of `more` that are on it
abbrev pub Inks : BitSheet → BitSheet → (ℤ × ℤ → Bool) → Type 0
Inks before after more = (after.side.pixels ≡ before.side.pixels) × (after.bytes.ghost_name ≡ before.bytes.ghost_name) × Gained before.side.pixels before.bytes.now after.bytes.now more
