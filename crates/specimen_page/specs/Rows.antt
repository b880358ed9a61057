-- The rows of a page, as text.
use Rattle.std.specs.Prelude.{ℕ, Bool, cond, pos}
use Rattle.std.specs.List.{range_with_len, list_any, count_by, sum_by}
use Rattle.sheet.specs.Meanings.{Meaning}

-- the pixel of this column and row is inked
abbrev pub inked_in : Meaning → ℕ → ℕ → Bool
inked_in a row column = a.inked (pos column, pos row)

-- the row bears ink
abbrev pub bears_ink : Meaning → ℕ → Bool
bears_ink a row = list_any (inked_in a row) (range_with_len 0 a.side)

-- how an inked pixel is shown, a #, and one that is not, a full stop
abbrev pub shown_as : Bool → ℕ
shown_as b = cond b 35 46

-- how many pixels of the row are inked
abbrev pub inked_in_row : Meaning → ℕ → ℕ
inked_in_row a row = count_by (inked_in a row) (range_with_len 0 a.side)

-- how many pixels of the page are inked
abbrev pub inked_pixels : Meaning → ℕ
inked_pixels a = sum_by (inked_in_row a) (range_with_len 0 a.side)
