-- The bytes of a statement that has begun, and the name in a heading.
use Rattle.std.specs.Prelude.{ℕ, ◌≤◌, Bool, true, false, List, length, take}
use Rattle.statement.specs.Statements.{Said, erase, endpic, subhed, subend, act}
use Rattle.statement.specs.Reading.{Shape, more, refused, whole}
use Rattle.reader.specs.declared.waiting.Held.{Held}

-- the bytes that are held
abbrev pub bytes_held : Held → List ℕ
bytes_held h = take h.len h.bytes

-- more bytes are wanted
abbrev pub is_more : Shape → Bool
is_more more = true
is_more (refused f) = false
is_more (whole s) = false

-- the name of a definition has at most 8 bytes
abbrev pub NameFits : Said → Type 0
NameFits erase = Unit {0}
NameFits endpic = Unit {0}
NameFits (subhed n h) = length n ≤ 8
NameFits subend = Unit {0}
NameFits (act a) = Unit {0}
