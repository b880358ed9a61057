-- How a text is set, code by code.
use Rattle.std.specs.Prelude.{ℕ, Bool, cond, ◌&&◌, List, [], ◌∷◌, ℤ, pos, negsuc, ◌+ℤ◌, ◌-ℤ◌, ◌==◌, int_lt, nat_le}
use Rattle.geometry.specs.declared.field.Point.{Point}
use Rattle.mark.specs.declared.Mark.TheVariants as mark
use Rattle.statement.specs.declared.layout.Manner.{Manner}
use Rattle.statement.specs.declared.layout.Manner.TheVariants as manner
use Rattle.run.specs.declared.types.Fault.TheVariants as fault
use Rattle.run.specs.Inks.{Ink, Drawn, good, stopped, and_then, point, beam_at, on_field, put, go_to}

-- the left margin
abbrev pub margin : ℤ
margin = negsuc 16383

-- a code that the font has
abbrev pub is_printed : ℕ → Bool
is_printed b = nat_le 32 b && nat_le b 126

-- one place to the right
abbrev pub next_place : Point → Point
next_place p = point (p.x +ℤ pos 450) p.y

-- the start of the next line
abbrev pub next_line : Point → Point
next_line p = point margin (p.y -ℤ pos 600)

-- a space puts no mark
abbrev pub ink_letter : ℕ → Ink → Drawn
ink_letter b i = cond (b == 32) (good i) (put (mark.Letter i.beam b) i)

-- a letter at the beam, then one place to the right: the field is looked at first
abbrev pub set_letter : ℕ → Ink → Drawn
set_letter b i = cond (on_field (next_place i.beam)) (and_then (ink_letter b i) (λ j. good (beam_at (next_place i.beam) j))) (stopped fault.OffField i)

-- a carriage return, a line feed, a backspace; other codes do nothing
abbrev pub control : ℕ → Ink → Drawn
control b i =
    cond (b == 13) (good (beam_at (point margin i.beam.y) i))
    (cond (b == 10) (go_to (point i.beam.x (i.beam.y -ℤ pos 600)) i)
    (cond (b == 8) (go_to (point (i.beam.x -ℤ pos 450) i.beam.y) i)
    (good i)))

-- a letter that would pass the right margin starts a new line
abbrev pub break_line : Manner → Ink → Drawn
break_line manner.Onward i = good i
break_line manner.Restoring i = good i
break_line manner.Wrapping i = cond (int_lt (pos 16384) (i.beam.x +ℤ pos 450)) (go_to (next_line i.beam) i) (good i)

abbrev pub set_code : Manner → ℕ → Ink → Drawn
set_code m b i = cond (is_printed b) (and_then (break_line m i) (set_letter b)) (control b i)

abbrev pub set_codes : Manner → List ℕ → Ink → Drawn
set_codes m [] i = good i
set_codes m (b ∷ bs) i = and_then (set_code m b i) (set_codes m bs)

-- the beam comes back, whether the text was finished or refused
abbrev pub restored : Point → Drawn → Drawn
restored p d = record { ink = beam_at p d.ink; refusal = d.refusal }

abbrev pub set_text : Manner → List ℕ → Ink → Drawn
set_text manner.Onward t i = set_codes manner.Onward t i
set_text manner.Restoring t i = restored i.beam (set_codes manner.Restoring t i)
set_text manner.Wrapping t i = set_codes manner.Wrapping t i
