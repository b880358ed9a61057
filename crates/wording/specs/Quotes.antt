-- Bytes between quotes.
use Rattle.std.specs.Prelude.{ℕ, ◌+◌, ◌-◌, ◌*◌, cond, ◌&&◌, List, [], ◌∷◌, ◌++◌, Some, None, Option, ◌==◌, nat_le}
use Rattle.listing.specs.Lines.{is_plain}
use Rattle.wording.specs.Texts.{given}

-- where one is between quotes: between two bytes, behind a backslash, before the high digit of a byte, or behind it
pub data Spot : Type 0 where
  between : Spot
  slashed : Spot
  at_high : Spot
  at_low : ℕ → Spot

-- what a character between quotes does: it goes on to another spot, it is or ends the form of a byte, or it is the closing quote
pub data Turn : Type 0 where
  goes : Spot → Turn
  stands : ℕ → Turn
  closes : Turn

-- the value of a digit of base 16, in small letters
abbrev pub hex_in : ℕ → Option ℕ
hex_in c = cond (nat_le 48 c && nat_le c 57) (Some (c - 48)) (cond (nat_le 97 c && nat_le c 102) (Some (c - 87)) None)

abbrev pub high_turn : Option ℕ → Option Turn
high_turn None = None
high_turn (Some h) = Some (goes (at_low h))

-- a byte that would stand as itself is not escaped
abbrev pub escaped_turn : ℕ → Option Turn
escaped_turn b = cond (is_plain b) None (Some (stands b))

abbrev pub low_turn : ℕ → Option ℕ → Option Turn
low_turn h None = None
low_turn h (Some l) = escaped_turn (h * 16 + l)

-- what the next character does, if it may stand there: it ends the string, stands for a byte, or begins or goes on with an escape
abbrev pub turn_at : Spot → ℕ → Option Turn
turn_at between c = cond (c == 34) (Some closes) (cond (c == 92) (Some (goes slashed)) (cond (is_plain c) (Some (stands c)) None))
turn_at slashed c = cond (c == 120) (Some (goes at_high)) None
turn_at at_high c = high_turn (hex_in c)
turn_at (at_low h) c = low_turn h (hex_in c)

-- the byte that two digits write, if they are digits and it may be escaped
abbrev pub escaped : ℕ → ℕ → Option ℕ
escaped h l = given (hex_in h) (λ a. given (hex_in l) (λ b. cond (is_plain (a * 16 + b)) None (Some (a * 16 + b))))

-- bytes before those that were found
abbrev pub before : List ℕ → Option (List ℕ × List ℕ) → Option (List ℕ × List ℕ)
before bs None = None
before bs (Some p) = Some (bs ++ p.0, p.1)

abbrev pub turned : Option Turn → List ℕ → (Spot → Option (List ℕ × List ℕ)) → Option (List ℕ × List ℕ)
turned None cs k = None
turned (Some (goes s)) cs k = k s
turned (Some (stands b)) cs k = before (b ∷ []) (k between)
turned (Some closes) cs k = Some ([], cs)

-- the bytes up to the closing quote, and what follows it
abbrev pub unquoted_at : Spot → List ℕ → Option (List ℕ × List ℕ)
unquoted_at s [] = None
unquoted_at s (c ∷ cs) = turned (turn_at s c) cs (λ z. unquoted_at z cs)

abbrev pub unquoted : List ℕ → Option (List ℕ × List ℕ)
unquoted cs = unquoted_at between cs
