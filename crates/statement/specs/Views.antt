-- What the values of the code say.
use Rattle.std.specs.Prelude.{◌≡◌, ℕ, List, length, take, drop, Some, None, Option, Ok, Err, Result}
use Rattle.std.specs.Option.{option_map}
use Rattle.statement.specs.declared.layout.Trace.TheVariants as trace
use Rattle.statement.specs.declared.layout.Aim.TheVariants as aim
use Rattle.statement.specs.declared.layout.Manner.TheVariants as manner
use Rattle.statement.specs.declared.layout.Setting.TheVariants as setting
use Rattle.statement.specs.declared.types.Fault.{Fault}
use Rattle.statement.specs.declared.types.Fault.TheVariants as fault
use Rattle.statement.specs.declared.types.Part.{Part}
use Rattle.statement.specs.declared.types.Tail.{Tail}
use Rattle.statement.specs.declared.types.Tail.TheVariants as tail
use Rattle.statement.specs.declared.types.Statement.{Statement}
use Rattle.statement.specs.declared.types.Statement.TheVariants as stmt
use Rattle.statement.specs.declared.types.Stop.{Stop}
use Rattle.statement.specs.declared.types.Stop.TheVariants.{Wanting, Wrong}
use Rattle.statement.specs.Statements.{CallTail, empty, coded, null, travel, letters, escape, assign, mark, movemk, drawmk, plain, call, Said, erase, endpic, subhed, subend, act}
use Rattle.statement.specs.Reading.{Shape, more, refused, whole}

-- the number under which a fault is refused
abbrev pub fault_number : Fault → ℕ
fault_number fault.UnknownCode = 1
fault_number fault.Misplaced = 2
fault_number fault.ShortCount = 3
fault_number fault.TooLong = 4
fault_number fault.WrongCharacter = 5
fault_number fault.WrongCoordinate = 6
fault_number fault.WrongLayout = 7
fault_number fault.StreamTooLong = 15

abbrev pub bytes_of : Part → List ℕ
bytes_of p = p.bytes.now

abbrev pub tail_said : Tail → CallTail
tail_said tail.Empty = empty
tail_said (tail.Coded a p) = coded (option_map bytes_of a) p

-- what a statement of the code says
abbrev pub said_by : Statement → Said
said_by stmt.Null = act (plain null)
said_by stmt.Erase = erase
said_by (stmt.Movea x y) = act (plain (travel trace.Blank aim.Absolute x y))
said_by (stmt.Mover x y) = act (plain (travel trace.Blank aim.Relative x y))
said_by (stmt.Drawa x y) = act (plain (travel trace.Line aim.Absolute x y))
said_by (stmt.Drawr x y) = act (plain (travel trace.Line aim.Relative x y))
said_by (stmt.Dota x y) = act (plain (travel trace.Dot aim.Absolute x y))
said_by (stmt.Dotr x y) = act (plain (travel trace.Dot aim.Relative x y))
said_by (stmt.Text p) = act (plain (letters manner.Onward (bytes_of p)))
said_by (stmt.Textr p) = act (plain (letters manner.Restoring (bytes_of p)))
said_by stmt.Endpic = endpic
said_by (stmt.Escdev v p) = act (plain (escape v (bytes_of p)))
said_by (stmt.Linmod v) = act (plain (assign setting.LineMode v))
said_by (stmt.Setint v) = act (plain (assign setting.Intensity v))
said_by (stmt.Texto p) = act (plain (letters manner.Wrapping (bytes_of p)))
said_by (stmt.Subhed p h) = subhed (bytes_of p) h
said_by stmt.Subend = subend
said_by (stmt.Insts p t) = act (call (bytes_of p) (tail_said t))
said_by stmt.Mark = act (plain mark)
said_by stmt.Movemk = act (plain movemk)
said_by stmt.Drawmk = act (plain drawmk)

-- what the reading of a statement answers
abbrev pub shape_of : Result Statement Stop → Shape
shape_of (Ok s) = whole (said_by s)
shape_of (Err Wanting) = more
shape_of (Err (Wrong f)) = refused f

-- a part lies in the bytes where it says
abbrev pub LiesIn : Part → List ℕ → Type 0
LiesIn p bs = take (length (bytes_of p)) (drop p.at bs) ≡ bytes_of p

abbrev pub PartLies : Option Part → List ℕ → Type 0
PartLies None bs = Unit {0}
PartLies (Some p) bs = LiesIn p bs

abbrev pub TailLies : Tail → List ℕ → Type 0
TailLies tail.Empty bs = Unit {0}
TailLies (tail.Coded a p) bs = PartLies a bs

-- every name and text of a statement is a part of these bytes, at the place that it has
abbrev pub PartsLie : Statement → List ℕ → Type 0
PartsLie (stmt.Text p) bs = LiesIn p bs
PartsLie (stmt.Textr p) bs = LiesIn p bs
PartsLie (stmt.Texto p) bs = LiesIn p bs
PartsLie (stmt.Escdev v p) bs = LiesIn p bs
PartsLie (stmt.Subhed p h) bs = LiesIn p bs
PartsLie (stmt.Insts p t) bs = LiesIn p bs × TailLies t bs
PartsLie _ bs = Unit {0}

-- the same of the statement that was read, if any
abbrev pub ReadingLies : Result Statement Stop → List ℕ → Type 0
ReadingLies (Ok s) bs = PartsLie s bs
ReadingLies (Err e) bs = Unit {0}
