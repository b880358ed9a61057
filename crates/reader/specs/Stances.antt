-- Where a reader stands.
use Rattle.std.specs.Prelude.{ℕ, Bool, true, not, List}
use Rattle.statement.specs.declared.types.Home.{Home}
use Rattle.statement.specs.declared.types.Standing.{Standing}
use Rattle.statement.specs.declared.types.Standing.TheVariants as standing
use Rattle.run.specs.Performing.{Entry}
use Rattle.run.specs.Runs.{Stance, outside, picture, defining, is_full}

-- in a definition that was begun here, and will be this entry
abbrev pub defining_as : Home → Entry → Stance
defining_as w e = defining w e.name e.header e.body

abbrev pub stance_of : Standing → Entry → Stance
stance_of standing.Outside e = outside
stance_of standing.Picture e = picture
stance_of (standing.Definition w) e = defining_as w e

-- a definition that is being recorded will find room in the table
abbrev pub has_room : Standing → List ℕ → List Entry → Bool
has_room standing.Outside n T = true
has_room standing.Picture n T = true
has_room (standing.Definition w) n T = not (is_full T n)
