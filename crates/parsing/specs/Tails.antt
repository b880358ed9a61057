-- What the reading of a tail answers.
use Rattle.std.specs.Prelude.{ℕ, List, Some, None, Option}
use Rattle.std.specs.Borrow.{Bor}
use Rattle.statement.specs.declared.types.Part.{Part}
use Rattle.statement.specs.declared.types.Tail.{Tail}
use Rattle.statement.specs.Statements.{CallTail}
use Rattle.statement.specs.Views.{bytes_of, LiesIn, TailLies}
use Rattle.statement.specs.Places.{NameStands, TailStands}

-- the AS name of a tail is a part of these bytes, at the place that it has
abbrev pub TailPartsBy : Option Tail → List ℕ → Type 0
TailPartsBy (Some t) bs = TailLies t bs
TailPartsBy None bs = Unit {0}

-- the AS name of a tail stands behind its count, which would stand at a place
abbrev pub TailStandsBy : ℕ → Option Tail → Type 0
TailStandsBy at (Some t) = TailStands at t
TailStandsBy at None = Unit {0}

-- an AS name, and the bytes after it
abbrev pub as_front : Option (Part × Bor (List ℕ)) → (Option (List ℕ) → List ℕ → Option CallTail) → Option CallTail
as_front (Some p) k = k (Some (bytes_of p.0)) p.1.now
as_front None k = None

-- it lies where it says
abbrev pub AsLies : Option (Part × Bor (List ℕ)) → List ℕ → Type 0
AsLies (Some p) bs = LiesIn p.0 bs
AsLies None bs = Unit {0}

-- it stands behind its count; `at` is where its count stands
abbrev pub AsStands : ℕ → Option (Part × Bor (List ℕ)) → Type 0
AsStands at (Some p) = NameStands at (Some p.0)
AsStands at None = Unit {0}
