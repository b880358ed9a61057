-- What a pen and a sheet together mean.
use Rattle.std.specs.Prelude.{ℕ, Bool, ◌&&◌, cond, List, reverse, take, Ok, Err, Result}
use Rattle.std.specs.Ordering.{int_eq}
use Rattle.std.specs.Result.{result_err}
use Rattle.geometry.specs.declared.field.Point.{Point}
use Rattle.sheet.specs.Meanings.{Meaning}
use Rattle.statement.specs.Statements.{plain, call, Said, erase, endpic, subhed, subend, act}
use Rattle.run.specs.declared.types.Fault.{Fault}
use Rattle.run.specs.declared.types.Fault.TheVariants as fault
use Rattle.run.specs.Inks.{Ink, Drawn, good, on_field}
use Rattle.run.specs.Performing.{effect}
use Rattle.pen.specs.declared.types.MarkStack.{MarkStack}
use Rattle.pen.specs.declared.types.Pen.{Pen}

-- the points that were marked, in their order
abbrev pub points_of : MarkStack → List Point
points_of s = take s.used s.points

-- the same, the last of them first
abbrev pub stacked : MarkStack → List Point
stacked s = reverse (points_of s)

-- two points have the same coordinates
abbrev pub same_point : Point → Point → Bool
same_point p q = int_eq p.x q.x && int_eq p.y q.y

abbrev pub ink_of : Pen → Meaning → Ink
ink_of p m = record { beam = p.beam; mode = p.mode; intensity = p.intensity; marks = stacked p.marks; sheet = m }

abbrev pub drawn : Result (Unit {0}) Fault → Ink → Drawn
drawn r i = record { ink = i; refusal = result_err r }

abbrev pub drawn_of : Result (Unit {0}) Fault → Pen → Meaning → Drawn
drawn_of r p m = drawn r (ink_of p m)

-- any ink, but with this beam, intensity and sheet
abbrev pub lit : Ink → Point → ℕ → Meaning → Ink
lit i p v m = record { beam = p; mode = i.mode; intensity = v; marks = i.marks; sheet = m }

-- a point, if it lies on the field
abbrev pub landing : Point → Result Point Fault
landing p = cond (on_field p) (Ok p) (Err fault.OffField)

-- what a statement does by itself; ERASE, ENDPIC, SUBHED, SUBEND and INSTS do nothing here
abbrev pub plain_effect : Said → Ink → Drawn
plain_effect erase i = good i
plain_effect endpic i = good i
plain_effect (subhed n h) i = good i
plain_effect subend i = good i
plain_effect (act (plain p)) i = effect p i
plain_effect (act (call n t)) i = good i
