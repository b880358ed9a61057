-- At which place of a statement its name, its text and its AS name stand, counted from its code.
use Rattle.std.specs.Prelude.{◌≡◌, ℕ, ◌+◌, cond, List, length, Some, None, Option, Ok, Err, Result, nat_lt}
use Rattle.statement.specs.declared.types.Part.{Part}
use Rattle.statement.specs.declared.types.Tail.{Tail}
use Rattle.statement.specs.declared.types.Tail.TheVariants as tail
use Rattle.statement.specs.declared.types.Statement.{Statement}
use Rattle.statement.specs.declared.types.Statement.TheVariants as stmt
use Rattle.statement.specs.declared.types.Stop.{Stop}
use Rattle.statement.specs.declared.layout.Bare.{Bare}
use Rattle.statement.specs.Statements.{alone}
use Rattle.statement.specs.Views.{bytes_of, said_by, PartsLie}

-- how many bytes a count takes
abbrev pub count_size : ℕ → ℕ
count_size n = cond (nat_lt n 128) 1 2

-- a string stands behind its count, which stands at a place
abbrev pub StringStands : ℕ → Part → Type 0
StringStands at p = p.at ≡ at + count_size (length (bytes_of p))

-- an AS name stands behind its count, which is one byte and stands at a place
abbrev pub NameStands : ℕ → Option Part → Type 0
NameStands at None = Unit {0}
NameStands at (Some p) = p.at ≡ at + 1

-- the AS name of a tail, whose count would stand at a place
abbrev pub TailStands : ℕ → Tail → Type 0
TailStands at tail.Empty = Unit {0}
TailStands at (tail.Coded a p) = NameStands at a

-- a name or a text follows the code, a text follows an escape's value; a call's tail follows its name, its length and its code byte
abbrev pub PartsStand : Statement → Type 0
PartsStand (stmt.Text p) = StringStands 1 p
PartsStand (stmt.Textr p) = StringStands 1 p
PartsStand (stmt.Texto p) = StringStands 1 p
PartsStand (stmt.Escdev v p) = StringStands 2 p
PartsStand (stmt.Subhed p h) = StringStands 1 p
PartsStand (stmt.Insts p t) = StringStands 1 p × TailStands (p.at + length (bytes_of p) + 2) t
PartsStand _ = Unit {0}

-- the same of the statement that was read, if any
abbrev pub ReadingStands : Result Statement Stop → Type 0
ReadingStands (Ok s) = PartsStand s
ReadingStands (Err e) = Unit {0}

-- a statement is that of a code alone, and has no name or text
pub record StatesAlone (b : Bare) (s : Statement) : Type 0 where
  pub said : said_by s ≡ alone b
  pub parts : (bs : List ℕ) → PartsLie s bs
  pub stands : PartsStand s
