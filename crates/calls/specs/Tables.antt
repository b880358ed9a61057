-- What names, definitions and the table of definitions mean.
use Rattle.std.specs.Prelude.{ℕ, suc, ◌-◌, Bool, cond, List, [], ◌∷◌, ◌++◌, map, length, take, Some, None, vec_items, Option, nat_le}
use Rattle.run.specs.Performing.{Entry, same_bytes}
use Rattle.run.specs.Runs.{store, is_full}
use Rattle.calls.specs.declared.types.Name.{Name}
use Rattle.calls.specs.declared.nesting.OpenNames.{OpenNames}
use Rattle.calls.specs.declared.types.Definition.{Definition}
use Rattle.calls.specs.declared.types.Table.{Table}

abbrev pub letters_of : Name → List ℕ
letters_of n = take n.len n.bytes

-- the open names, the outermost first
abbrev pub open_of : OpenNames → List (List ℕ)
open_of o = map (λ n. n.now) o.names.items

-- eight calls may be open: how many more
abbrev pub calls_left : OpenNames → ℕ
calls_left o = 8 - length o.names.items

abbrev pub entry_of : Definition → Entry
entry_of d = record { name = letters_of d.name; header = d.header; body = take d.len d.body }

abbrev pub entries_of : Table → List Entry
entries_of t = map entry_of (vec_items t.entries)

-- with more bytes recorded
abbrev pub longer : Entry → List ℕ → Entry
longer e bs = record { name = e.name; header = e.header; body = e.body ++ bs }

-- a body has at most 1,024 bytes
abbrev pub overflows : Entry → List ℕ → Bool
overflows e bs = nat_le 1025 (length (e.body ++ bs))

-- the place of the first entry of a name, counted from i
abbrev pub place_from : List Entry → ℕ → List ℕ → Option ℕ
place_from [] i n = None
place_from (e ∷ es) i n = cond (same_bytes e.name n) (Some i) (place_from es (suc i) n)

-- with the entry stored, unless there is no room for its name
abbrev pub stored_in : List Entry → Entry → List Entry
stored_in T e = cond (is_full T e.name) T (store e T)
