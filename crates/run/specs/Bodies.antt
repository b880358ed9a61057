-- Recorded bodies are whole lawful statements.
use Rattle.std.specs.Prelude.{◌≡◌, ℕ, ◌<◌, List, [], ◌∷◌, ◌++◌}
use Rattle.std.specs.List.{AllByRecursion}
use Rattle.sheet.specs.Meanings.{Meaning}
use Rattle.statement.specs.Statements.{Act, act}
use Rattle.spelling.specs.Spelling.{spell, Lawful}
use Rattle.run.specs.Performing.{Entry}
use Rattle.run.specs.Runs.{Stance, outside, picture, defining, run, begun}

abbrev pub spell_acts : List Act → List ℕ
spell_acts [] = []
spell_acts (a ∷ as') = spell (act a) ++ spell_acts as'

abbrev pub AllLawful : List Act → Type 0
AllLawful [] = Unit {0}
AllLawful (a ∷ as') = Lawful (act a) × AllLawful as'

-- the bytes are lawful statements, one after the other, none of them ERASE, ENDPIC, SUBHED or SUBEND
abbrev pub Whole : List ℕ → Type 0
Whole bs = (acts : List Act) × AllLawful acts × (bs ≡ spell_acts acts)

abbrev pub AllWhole : List Entry → Type 0
AllWhole [] = Unit {0}
AllWhole (e ∷ es) = Whole e.body × AllWhole es

abbrev pub WholeSoFar : Stance → Type 0
WholeSoFar outside = Unit {0}
WholeSoFar picture = Unit {0}
WholeSoFar (defining w n h bs) = Whole bs

-- every body that a run has, and what it has recorded of the next, is whole lawful statements
abbrev pub BodiesWhole : Type 0
BodiesWhole = (m : Meaning) (bs : List ℕ) → AllByRecursion (λ b. b < 256) bs → AllWhole (run (begun m) bs).drawing.table × WholeSoFar (run (begun m) bs).drawing.stance
