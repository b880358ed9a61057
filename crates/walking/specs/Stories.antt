-- What a walker through a stream has still to tell.
use Rattle.std.specs.Prelude.{◌≡◌, ℕ, ◌+◌, true, List, [], ◌∷◌, ◌++◌, map, length, drop, Some, None, Option, Ok, Err, Result}
use Rattle.statement.specs.declared.types.Standing.{Standing}
use Rattle.statement.specs.declared.types.Standing.TheVariants.{Outside, Picture, Definition}
use Rattle.statement.specs.declared.types.Statement.{Statement}
use Rattle.statement.specs.declared.types.Stop.{Stop}
use Rattle.statement.specs.Statements.{allowed, onwards}
use Rattle.statement.specs.Views.{said_by}
use Rattle.walking.specs.declared.walker.Placed.{Placed}
use Rattle.walking.specs.declared.walker.End.{End}
use Rattle.walking.specs.declared.walker.End.TheVariants as end
use Rattle.spelling.specs.Answers.{over_front}
use Rattle.spelling.specs.Spelling.{code_of, spell, Lawful}
use Rattle.spelling.specs.Walking.{Told, Stopped, Walk, walk}

abbrev pub told_by : Placed → Told
told_by p = record { place = p.place; said = said_by p.statement }

-- a stream that was not refused is whole if it ends outside and between statements
abbrev pub end_at : Option Stopped → Standing → List ℕ → ℕ → End
end_at (Some e) st held read = end.Refused e.fault e.place
end_at None Outside [] read = end.Whole
end_at None Outside (b ∷ held) read = end.Unfinished read
end_at None Picture held read = end.Unfinished read
end_at None (Definition h) held read = end.Unfinished read

abbrev pub end_of : Walk → End
end_of w = end_at w.stop w.standing w.held w.read

-- statements and an end that are those of a walk
abbrev pub Tells : List Placed → End → Walk → Type 0
Tells ps e w = (map told_by ps ≡ w.told) × (e ≡ end_of w)

-- the walk through what is left of a stream, from between two statements, with those told before
abbrev pub from_place : Standing → ℕ → List ℕ → List Told → Walk
from_place st at bs told = walk (record { standing = st; held = []; told = told; read = at; stop = None }) (drop at bs)

-- what was told before and the step make up the walk
abbrev pub Stepped : Result Placed End → (List Told → Walk) → (List Told → Walk) → Type 0
Stepped (Ok p) before after = (told : List Told) → before told ≡ after (told ++ (told_by p ∷ []))
Stepped (Err e) before after = (told : List Told) → ((before told).told ≡ told) × (e ≡ end_of (before told))

-- a walker goes on past the statement that it tells, and stays at the end
abbrev pub Moved : Result Placed End → Standing → ℕ → Standing → ℕ → Type 0
Moved (Ok p) st at st' at' = (p.place ≡ at) × (st' ≡ onwards st (said_by p.statement)) × (at' ≡ at + length (spell (said_by p.statement)))
Moved (Err e) st at st' at' = (st' ≡ st) × (at' ≡ at)

-- a statement that was read is lawful and allowed, and the bytes begin with its spelling
abbrev pub BeginsWith : Standing → Result Statement Stop → List ℕ → Type 0
BeginsWith st (Ok s) bs = (bs ≡ over_front (spell (said_by s)) bs) × Lawful (said_by s) × (allowed st (code_of (said_by s)) ≡ true)
BeginsWith st (Err e) bs = Unit {0}
