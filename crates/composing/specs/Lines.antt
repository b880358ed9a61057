-- The lines of a description, and what each says.
use Rattle.std.specs.Prelude.{◌≡◌, ℕ, ◌+◌, ◌<◌, ◌≤◌, Bool, cond, ◌&&◌, ◌||◌, List, [], ◌∷◌, length, Some, None, codes, Option, ◌==◌, nat_le}
use Rattle.std.specs.Str.{bytes_eq}
use Rattle.statement.specs.Statements.{Said}
use Rattle.wording.specs.Words.{worded}

-- one byte more at the front of the first line
abbrev pub on_first : ℕ → List (List ℕ) → List (List ℕ)
on_first b [] = (b ∷ []) ∷ []
on_first b (l ∷ ls) = (b ∷ l) ∷ ls

-- the lines of a text: byte 10 ends a line, and the last may lack it
abbrev pub lines_of : List ℕ → List (List ℕ)
lines_of [] = []
lines_of (b ∷ bs) = cond (b == 10) ([] ∷ lines_of bs) (on_first b (lines_of bs))

-- a digit or a space
abbrev pub is_fill : ℕ → Bool
is_fill b = b == 32 || (nat_le 48 b && nat_le b 57)

-- a line without the fill before its words
abbrev pub bare : List ℕ → List ℕ
bare [] = []
bare (b ∷ bs) = cond (is_fill b) (bare bs) (b ∷ bs)

-- what says nothing: no byte, or the word by which a listing ends
abbrev pub is_silent : List ℕ → Bool
is_silent ws = length ws == 0 || bytes_eq ws (codes "whole")

-- what a line says: nothing, no statement, or a statement
pub data Line : Type 0 where
  silent : Line
  unreadable : Line
  saying : Said → Line

abbrev pub saying_of : Option Said → Line
saying_of None = unreadable
saying_of (Some s) = saying s

abbrev pub heard : List ℕ → Line
heard l = cond (is_silent (bare l)) silent (saying_of (worded (bare l)))

-- the next line of what is left of a text, if there is one, with what is left after it and the lines read
abbrev pub NextLine : Option (List ℕ) → List ℕ → ℕ → List ℕ → ℕ → Type 0
NextLine None rest n rest' n' = (lines_of rest ≡ []) × (rest' ≡ rest) × (n' ≡ n)
NextLine (Some l) rest n rest' n' = (lines_of rest ≡ l ∷ lines_of rest') × (n' ≡ n + 1) × (length l ≤ length rest) × (length rest' < length rest)
