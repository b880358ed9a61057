-- What a statement that is taken apart says.
use Rattle.statement.specs.Statements.{travel, letters, escape, assign, plain, call, Said, alone, subhed, act}
use Rattle.statement.specs.Views.{bytes_of, tail_said}
use Rattle.spelling.specs.declared.parts.Parts.{Parts}
use Rattle.spelling.specs.declared.parts.Parts.TheVariants as parts

-- the words of the parts say what the statement says
abbrev pub said_with : Parts → Said
said_with (parts.Bare b) = alone b
said_with (parts.Pair t a x y) = act (plain (travel t a x y))
said_with (parts.Text m t) = act (plain (letters m (bytes_of t)))
said_with (parts.Escape v t) = act (plain (escape v (bytes_of t)))
said_with (parts.Value s v) = act (plain (assign s v))
said_with (parts.Heading n h) = subhed (bytes_of n) h
said_with (parts.Calling n t) = act (call (bytes_of n) (tail_said t))
