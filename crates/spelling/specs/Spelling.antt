-- The one spelling of a statement, and which statements are lawful.
use Rattle.std.specs.Prelude.{◌≡◌, ℕ, ◌+◌, ◌/◌, ◌%◌, Bool, true, false, cond, ◌&&◌, List, [], ◌∷◌, ◌++◌, length, ℤ, Some, None, Option, nat_le, nat_lt}
use Rattle.std.specs.Int.{w16}
use Rattle.std.proofs.Common.{of_z}
use Rattle.statement.specs.declared.layout.Trace.{Trace}
use Rattle.statement.specs.declared.layout.Trace.TheVariants as trace
use Rattle.statement.specs.declared.layout.Aim.{Aim}
use Rattle.statement.specs.declared.layout.Aim.TheVariants as aim
use Rattle.statement.specs.declared.layout.Manner.{Manner}
use Rattle.statement.specs.declared.layout.Manner.TheVariants as manner
use Rattle.statement.specs.declared.layout.Setting.{Setting}
use Rattle.statement.specs.declared.layout.Setting.TheVariants as setting
use Rattle.statement.specs.declared.types.Fault.{Fault}
use Rattle.statement.specs.declared.types.Fault.TheVariants as fault
use Rattle.statement.specs.Statements.{CallTail, empty, coded, Plain, null, travel, letters, escape, assign, mark, movemk, drawmk, Act, plain, call, Said, erase, endpic, subhed, subend, act}
use Rattle.statement.specs.Reading.{lawful, is_text, is_name, lawful_tail, named_tail}
pub use Rattle.statement.specs.Reading.{header_byte}

abbrev pub travel_code : Trace → Aim → ℕ
travel_code trace.Blank aim.Absolute = 2
travel_code trace.Blank aim.Relative = 3
travel_code trace.Line aim.Absolute = 4
travel_code trace.Line aim.Relative = 5
travel_code trace.Dot aim.Absolute = 6
travel_code trace.Dot aim.Relative = 7

abbrev pub text_code : Manner → ℕ
text_code manner.Onward = 8
text_code manner.Restoring = 9
text_code manner.Wrapping = 14

abbrev pub setting_code : Setting → ℕ
setting_code setting.LineMode = 12
setting_code setting.Intensity = 13

abbrev pub plain_code : Plain → ℕ
plain_code null = 0
plain_code (travel t a x y) = travel_code t a
plain_code (letters m t) = text_code m
plain_code (escape v t) = 11
plain_code (assign s v) = setting_code s
plain_code mark = 18
plain_code movemk = 19
plain_code drawmk = 20

abbrev pub act_code : Act → ℕ
act_code (plain p) = plain_code p
act_code (call n t) = 17

abbrev pub code_of : Said → ℕ
code_of erase = 1
code_of endpic = 10
code_of (subhed n h) = 15
code_of subend = 16
code_of (act a) = act_code a

-- a count below 128 is one byte, any other two
abbrev pub spell_count : ℕ → List ℕ
spell_count n = cond (nat_lt n 128) (n ∷ []) ((128 + n / 256) ∷ (n % 256) ∷ [])

abbrev pub spell_string : List ℕ → List ℕ
spell_string t = spell_count (length t) ++ t

abbrev pub spell_pair : ℤ → ℤ → List ℕ
spell_pair x y = (of_z w16 x / 256) ∷ (of_z w16 x % 256) ∷ (of_z w16 y / 256) ∷ (of_z w16 y % 256) ∷ []

abbrev pub spell_as : Option (List ℕ) → List ℕ
spell_as None = []
spell_as (Some n) = length n ∷ n

abbrev pub spell_at : Option (ℤ × ℤ) → List ℕ
spell_at None = []
spell_at (Some p) = spell_pair p.0 p.1

abbrev pub tail_byte : Option (List ℕ) → Option (ℤ × ℤ) → ℕ
tail_byte None None = 0x00
tail_byte None (Some p) = 0x40
tail_byte (Some n) None = 0x80
tail_byte (Some n) (Some p) = 0xC0

-- what stands after the tail's length
abbrev pub spell_tail : CallTail → List ℕ
spell_tail empty = []
spell_tail (coded a p) = tail_byte a p ∷ (spell_as a ++ spell_at p)

abbrev pub spell_plain : Plain → List ℕ
spell_plain null = []
spell_plain (travel t a x y) = spell_pair x y
spell_plain (letters m t) = spell_string t
spell_plain (escape v t) = v ∷ spell_string t
spell_plain (assign s v) = v ∷ []
spell_plain mark = []
spell_plain movemk = []
spell_plain drawmk = []

abbrev pub spell_act : Act → List ℕ
spell_act (plain p) = spell_plain p
spell_act (call n t) = spell_string n ++ (length (spell_tail t) ∷ spell_tail t)

abbrev pub spell_arguments : Said → List ℕ
spell_arguments erase = []
spell_arguments endpic = []
spell_arguments (subhed n h) = spell_string n ++ (1 ∷ header_byte h ∷ [])
spell_arguments subend = []
spell_arguments (act a) = spell_act a

abbrev pub spell : Said → List ℕ
spell s = code_of s ∷ spell_arguments s

-- the first of two faults, if any
abbrev pub first_of : Option Fault → Option Fault → Option Fault
first_of None g = g
first_of (Some f) g = Some f

abbrev pub unless : Bool → Fault → Option Fault
unless true f = None
unless false f = Some f

abbrev pub as_length : Option (List ℕ) → ℕ
as_length None = 0
as_length (Some n) = length n

abbrev pub tail_fits : CallTail → Bool
tail_fits empty = true
tail_fits (coded a p) = nat_le (as_length a) 8

abbrev pub plain_fault : Plain → Option Fault
plain_fault null = None
plain_fault (travel t a x y) = unless (lawful a x && lawful a y) fault.WrongCoordinate
plain_fault (letters m t) = first_of (unless (nat_le (length t) 512) fault.TooLong) (unless (is_text t) fault.WrongCharacter)
plain_fault (escape v t) = unless (nat_le (length t) 512) fault.TooLong
plain_fault (assign s v) = None
plain_fault mark = None
plain_fault movemk = None
plain_fault drawmk = None

abbrev pub act_fault : Act → Option Fault
act_fault (plain p) = plain_fault p
act_fault (call n t) =
    first_of (unless (nat_le (length n) 8) fault.TooLong)
    (first_of (unless (tail_fits t) fault.WrongLayout)
    (first_of (unless (lawful_tail t) fault.WrongCoordinate) (unless (is_name n && named_tail t) fault.WrongCharacter)))

-- why a statement cannot be written: too long a string or name, a tail that does not fit, a coordinate, a character, in this order
abbrev pub fault_of : Said → Option Fault
fault_of erase = None
fault_of endpic = None
fault_of (subhed n h) = first_of (unless (nat_le (length n) 8) fault.TooLong) (unless (is_name n) fault.WrongCharacter)
fault_of subend = None
fault_of (act a) = act_fault a

abbrev pub Lawful : Said → Type 0
Lawful s = fault_of s ≡ None
