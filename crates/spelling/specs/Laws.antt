-- The laws of spelling and reading.
use Rattle.std.specs.Prelude.{◌≡◌, ℕ, ◌+◌, ◌<◌, ◌≤◌, true, List, [], ◌∷◌, ◌++◌, length, take, None}
use Rattle.std.specs.List.{AllByRecursion}
use Rattle.statement.specs.declared.types.Standing.{Standing}
use Rattle.statement.specs.declared.types.Standing.TheVariants.{Outside}
use Rattle.statement.specs.Statements.{Said, allowed, onwards}
use Rattle.statement.specs.Reading.{more, whole, reading}
use Rattle.spelling.specs.Spelling.{code_of, spell, Lawful}
use Rattle.spelling.specs.Walking.{Told, Walk, longest_stream, read_back}

-- bytes that, as they come, want more until the last of them makes the statement whole
pub record Reads (st : Standing) (bs : List ℕ) (s : Said) : Type 0 where
  pub before : (k : ℕ) → k < length bs → reading st (take k bs) ≡ more
  pub last : reading st bs ≡ whole s

-- the spelling of a lawful statement reads as that statement, and no front of it as whole or refused
abbrev pub Spelt : Type 0
Spelt = (st : Standing) (s : Said) → Lawful s → allowed st (code_of s) ≡ true → Reads st (spell s) s

-- whatever bytes read as a statement are its spelling, and it is lawful and allowed there
abbrev pub SpeltOnce : Type 0
SpeltOnce = (st : Standing) (bs : List ℕ) (s : Said) → AllByRecursion (λ b. b < 256) bs → Reads st bs s → (bs ≡ spell s) × Lawful s × (allowed st (code_of s) ≡ true)

-- statements that are lawful and allowed where they stand, one after the other
abbrev pub Stand : Standing → List Said → Type 0
Stand st [] = Unit {0}
Stand st (s ∷ ss) = Lawful s × (allowed st (code_of s) ≡ true) × Stand (onwards st s) ss

abbrev pub spell_all : List Said → List ℕ
spell_all [] = []
spell_all (s ∷ ss) = spell s ++ spell_all ss

-- each with the place of its code, from a place on
abbrev pub placed : ℕ → List Said → List Told
placed at [] = []
placed at (s ∷ ss) = record { place = at; said = s } ∷ placed (at + length (spell s)) ss

abbrev pub standing_after : Standing → List Said → Standing
standing_after st [] = st
standing_after st (s ∷ ss) = standing_after (onwards st s) ss

-- how a stream of these statements is read back
abbrev pub recited : List Said → Walk
recited ss = record { standing = standing_after Outside ss; held = []; told = placed 0 ss; read = length (spell_all ss); stop = None }

-- the spelling of statements that are lawful where they stand reads back as those statements
abbrev pub StreamsReadBack : Type 0
StreamsReadBack = (ss : List Said) → Stand Outside ss → length (spell_all ss) ≤ longest_stream → read_back (spell_all ss) ≡ recited ss
