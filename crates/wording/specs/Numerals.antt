-- Numbers in decimal, in the one form in which a listing has them.
use Rattle.std.specs.Prelude.{ℕ, ◌+◌, ◌-◌, ◌*◌, Bool, cond, not, ◌&&◌, ◌||◌, List, [], ◌∷◌, length, ℤ, pos, neg_ℤ, Some, None, codes, Option, ◌==◌, nat_le, slice_index}
use Rattle.std.specs.Char.{is_ascii_digit}
use Rattle.wording.specs.Texts.{given, behind}

-- one byte, or two to five with no zero in front
abbrev pub is_short : List ℕ → Bool
is_short ds = length ds == 1 || ((nat_le 2 (length ds) && nat_le (length ds) 5) && not (slice_index ds 0 == 48))

-- the number that digits write, after those of n
abbrev pub number_after : ℕ → List ℕ → Option ℕ
number_after n [] = Some n
number_after n (d ∷ ds) = cond (is_ascii_digit d) (number_after (n * 10 + (d - 48)) ds) None

abbrev pub number_in : List ℕ → Option ℕ
number_in ds = cond (is_short ds) (number_after 0 ds) None

abbrev pub up_to : ℕ → ℕ → Option ℕ
up_to most n = cond (nat_le n most) (Some n) None

-- a value is at most 255
abbrev pub value_in : List ℕ → Option ℕ
value_in ds = given (number_in ds) (up_to 255)

abbrev pub negated : ℕ → Option ℤ
negated n = cond (nat_le 1 n && nat_le n 32768) (Some (neg_ℤ (pos n))) None

abbrev pub unsigned : ℕ → Option ℤ
unsigned n = cond (nat_le n 32767) (Some (pos n)) None

-- a coordinate is a number of 16 bits, with a sign if it is negative
abbrev pub signed_in : List ℕ → Option (List ℕ) → Option ℤ
signed_in cs (Some ds) = given (number_in ds) negated
signed_in cs None = given (number_in cs) unsigned

abbrev pub coordinate_in : List ℕ → Option ℤ
coordinate_in cs = signed_in cs (behind (codes "-") cs)
