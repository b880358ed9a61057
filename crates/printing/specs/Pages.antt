-- The text of a page.
use Rattle.std.specs.Prelude.{ℕ, cond, List, [], ◌∷◌, ◌++◌, map, pos}
use Rattle.std.specs.List.{range_with_len, flat_map}
use Rattle.sheet.specs.Meanings.{Meaning}

-- # where the pixel is inked, . where it is not
abbrev pub pixel_text : Meaning → ℕ → ℕ → ℕ
pixel_text m row column = cond (m.inked (pos column, pos row)) 35 46

-- a row's pixels from the left on, and the end of the line
abbrev pub row_text : Meaning → ℕ → List ℕ
row_text m row = map (pixel_text m row) (range_with_len 0 m.side) ++ (10 ∷ [])

-- the first n rows, from the top on
abbrev pub rows_text : Meaning → ℕ → List ℕ
rows_text m n = flat_map (row_text m) (range_with_len 0 n)

abbrev pub page_text : Meaning → List ℕ
page_text m = rows_text m m.side
