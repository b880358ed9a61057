-- Looking a name up, among the open names and in the table.
use Rattle.std.proofs.Common.{◌≡◌, ℕ, ◌+◌, ◌≤◌, cond, ◌||◌, List, [], ◌∷◌, map, length, Some, None, vec_len, vec_capacity, Bor, Vec, refl, ap, ◌∙◌, add-one, ltb}
use Rattle.std.specs.List.{list_any, position_or_len, position_from}
use Rattle.std.proofs.lemmas.Iterator.Adapters.{position_from-zero}
use Rattle.run.specs.Performing.{same_bytes, is_among}
use native.Mathlib.Bridge.{le_prop}
use Rattle.std.specs.declared.alloc.Global.{Global}
use Rattle.calls.specs.declared.types.Definition.{Definition}
use Rattle.calls.specs.declared.types.Table.{Table}
use Rattle.calls.specs.Tables.{letters_of, entry_of, place_from}

pub among_names : (n : List ℕ) (xs : List (Bor (List ℕ))) → list_any (λ x. same_bytes x.now n) xs ≡ is_among n (map (λ x. x.now) xs)
among_names n [] = refl
among_names n (x ∷ xs) = ap (λ b. same_bytes x.now n || b) (among_names n xs)

place_from_on : (n : List ℕ) (es : List Definition) (i : ℕ) → position_from (λ e. same_bytes (letters_of e.name) n) i es ≡ place_from (map entry_of es) i n
place_from_on n [] i = refl
place_from_on n (e ∷ es) i = ap (λ p. cond (same_bytes (letters_of e.name) n) (Some i) p) (place_from_on n es (i + 1) ∙ ap (λ j. place_from (map entry_of es) j n) (add-one i))

-- the place that a search of the definitions finds is that of the name's entry
pub place_of : (n : List ℕ) (es : List Definition)
    → cond (ltb (position_or_len (λ e. same_bytes (letters_of e.name) n) es) (length es)) (Some (position_or_len (λ e. same_bytes (letters_of e.name) n) es)) None ≡ place_from (map entry_of es) 0 n
place_of n es = position_from-zero (λ e. same_bytes (letters_of e.name) n) es ∙ place_from_on n es 0

-- a table is its entries
pub same_table : (v : Vec Definition Global) (r r' : 32 ≤ vec_capacity v) (f f' : vec_len v ≤ 32) → ◌≡◌ {A = Table} record { entries = v; room = r; few = f } record { entries = v; room = r'; few = f' }
same_table v r r' f f' = λ i. record { entries = v; room = le_prop r r' i; few = le_prop f f' i }
