-- The beam, the modes, the mark stack and the sheet: what performing works on, and the ways the beam goes.
use Rattle.std.specs.Prelude.{ℕ, Bool, cond, ◌&&◌, List, ℤ, pos, negsuc, ◌+ℤ◌, Some, None, Ok, Err, Option, Result, ◌==◌, int_le}
use Rattle.geometry.specs.declared.field.Point.{Point}
use Rattle.mark.specs.declared.LineMode.{LineMode}
use Rattle.mark.specs.declared.Mark.{Mark}
use Rattle.mark.specs.declared.Mark.TheVariants as mark
use Rattle.sheet.specs.Meanings.{Meaning, answer, marked}
use Rattle.sheet.specs.declared.refusals.Refusal.{Refusal}
use Rattle.statement.specs.declared.layout.Trace.{Trace}
use Rattle.statement.specs.declared.layout.Trace.TheVariants as trace
use Rattle.statement.specs.declared.layout.Aim.{Aim}
use Rattle.statement.specs.declared.layout.Aim.TheVariants as aim
use Rattle.run.specs.declared.types.Fault.{Fault}
use Rattle.run.specs.declared.types.Fault.TheVariants as fault

pub record Ink : Type 0 where
  pub beam : Point
  pub mode : LineMode
  pub intensity : ℕ
  pub marks : List Point
  pub sheet : Meaning

-- what something performed leaves, and the fault that ended it
pub record Drawn : Type 0 where
  pub ink : Ink
  pub refusal : Option Fault

abbrev pub good : Ink → Drawn
good i = record { ink = i; refusal = None }

abbrev pub stopped : Fault → Ink → Drawn
stopped f i = record { ink = i; refusal = Some f }

-- what comes next, unless there was a fault
abbrev pub unless_stopped : Option Fault → Drawn → (Ink → Drawn) → Drawn
unless_stopped None d f = f d.ink
unless_stopped (Some e) d f = d

abbrev pub and_then : Drawn → (Ink → Drawn) → Drawn
and_then d f = unless_stopped d.refusal d f

abbrev pub point : ℤ → ℤ → Point
point a b = record { x = a; y = b }

abbrev pub origin : Point
origin = point (pos 0) (pos 0)

abbrev pub beam_at : Point → Ink → Ink
beam_at p i = record { beam = p; mode = i.mode; intensity = i.intensity; marks = i.marks; sheet = i.sheet }

abbrev pub marks_as : List Point → Ink → Ink
marks_as ps i = record { beam = i.beam; mode = i.mode; intensity = i.intensity; marks = ps; sheet = i.sheet }

abbrev pub mode_as : LineMode → Ink → Ink
mode_as m i = record { beam = i.beam; mode = m; intensity = i.intensity; marks = i.marks; sheet = i.sheet }

abbrev pub intensity_as : ℕ → Ink → Ink
intensity_as v i = record { beam = i.beam; mode = i.mode; intensity = v; marks = i.marks; sheet = i.sheet }

abbrev pub sheet_as : Meaning → Ink → Ink
sheet_as s i = record { beam = i.beam; mode = i.mode; intensity = i.intensity; marks = i.marks; sheet = s }

-- the field reaches from -32768 to 32767 in both directions
abbrev pub in_field : ℤ → Bool
in_field v = int_le (negsuc 32767) v && int_le v (pos 32767)

abbrev pub on_field : Point → Bool
on_field p = in_field p.x && in_field p.y

-- the sheet's answer to a mark
abbrev pub put_by : Result (Unit {0}) Refusal → Mark → Ink → Drawn
put_by (Ok u) m i = good (sheet_as (marked i.sheet m) i)
put_by (Err e) m i = stopped fault.SheetFull i

-- a mark; at intensity 0 none is put
abbrev pub put : Mark → Ink → Drawn
put m i = cond (i.intensity == 0) (good i) (put_by (answer i.sheet) m i)

-- the beam goes to a point, if that lies on the field
abbrev pub go_to : Point → Ink → Drawn
go_to p i = cond (on_field p) (good (beam_at p i)) (stopped fault.OffField i)

-- the point meant by two coordinates
abbrev pub target : Aim → ℤ → ℤ → Point → Point
target aim.Absolute x y p = point x y
target aim.Relative x y p = point (p.x +ℤ x) (p.y +ℤ y)

-- what the beam leaves on its way to a point
abbrev pub leave : Trace → Point → Ink → Drawn
leave trace.Blank p i = good i
leave trace.Line p i = put (mark.Line i.beam p i.mode) i
leave trace.Dot p i = put (mark.Dot p) i

-- the field is looked at first, then the mark is put, then the beam moves
abbrev pub go : Trace → Point → Ink → Drawn
go t p i = cond (on_field p) (and_then (leave t p i) (λ j. good (beam_at p j))) (stopped fault.OffField i)
