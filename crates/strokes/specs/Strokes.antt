-- The stroke that keeps a mark, and the mark that a stroke keeps.
use Rattle.std.specs.Prelude.{pos}
use Rattle.mark.specs.declared.LineMode.TheVariants.{Solid}
use Rattle.mark.specs.declared.Mark.{Mark}
use Rattle.mark.specs.declared.Mark.TheVariants as marks
use Rattle.strokes.specs.declared.records.Kind.{Kind}
use Rattle.strokes.specs.declared.records.Kind.TheVariants.{Dot, Line, Letter}
use Rattle.strokes.specs.declared.records.Stroke.{Stroke}

-- the stroke of a mark, every field of it: what a mark lacks is its own point, a solid line and the code 0
abbrev pub stroke_of : Mark → Stroke
stroke_of (marks.Dot at) = record { kind = Dot; from = at; to = at; mode = Solid; code = 0 }
stroke_of (marks.Line from to mode) = record { kind = Line; from = from; to = to; mode = mode; code = 0 }
stroke_of (marks.Letter at code) = record { kind = Letter; from = at; to = at; mode = Solid; code = code }

abbrev pub mark_by : Kind → Stroke → Mark
mark_by Dot s = marks.Dot s.from
mark_by Line s = marks.Line s.from s.to s.mode
mark_by Letter s = marks.Letter s.from s.code

-- the mark that a stroke keeps: of a dot only `from` counts, of a letter `from` and `code`
abbrev pub mark_of : Stroke → Mark
mark_of s = mark_by s.kind s

-- what a list of strokes is read as past its end
abbrev pub no_stroke : Stroke
no_stroke = stroke_of (marks.Dot (record { x = pos 0; y = pos 0 }))
