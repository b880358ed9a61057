-- What the reading of arguments answers.
use Rattle.std.specs.Prelude.{◌≡◌, ℕ, ◌+◌, ◌≤◌, cond, List, length, drop, Ok, Err, Result, nat_lt}
use Rattle.std.specs.Borrow.{Bor}
use Rattle.statement.specs.declared.types.Stop.{Stop}
use Rattle.statement.specs.declared.types.Stop.TheVariants.{Wanting, Wrong}
use Rattle.statement.specs.declared.types.Fault.TheVariants as fault
use Rattle.statement.specs.declared.types.Part.{Part}
use Rattle.statement.specs.Reading.{Front, wanting, wrong, found}
use Rattle.statement.specs.Views.{bytes_of, LiesIn}
use Rattle.statement.specs.Places.{StringStands}

abbrev pub stop_front : {A : Type 0} → Stop → Front A
stop_front Wanting = wanting
stop_front (Wrong f) = wrong f

-- a count of two bytes is at least 128
abbrev pub long_count_by : ℕ → Result ℕ Stop
long_count_by n = cond (nat_lt n 128) (Err (Wrong fault.ShortCount)) (Ok n)

-- a count, and the bytes after it
abbrev pub count_front : Result (ℕ × Bor (List ℕ)) Stop → Front ℕ
count_front (Ok p) = found p.0 p.1.now
count_front (Err s) = stop_front s

-- a string, and the bytes after it
abbrev pub string_front : Result (Part × Bor (List ℕ)) Stop → Front (List ℕ)
string_front (Ok p) = found (bytes_of p.0) p.1.now
string_front (Err s) = stop_front s

-- a string lies in the statement where it says, and the bytes after it follow it there; `at` is where its count stands
abbrev pub StringLies : Result (Part × Bor (List ℕ)) Stop → ℕ → List ℕ → Type 0
StringLies (Ok p) at bytes =
    (p.0.at ≤ at + 2) × ((bs : List ℕ) → drop at bs ≡ bytes → LiesIn p.0 bs × (drop (p.0.at + length (bytes_of p.0)) bs ≡ p.1.now))
StringLies (Err s) at bytes = Unit {0}

-- a string stands behind its count; `at` is where its count stands
abbrev pub StringStandsBy : ℕ → Result (Part × Bor (List ℕ)) Stop → Type 0
StringStandsBy at (Ok p) = StringStands at p.0
StringStandsBy at (Err s) = Unit {0}
