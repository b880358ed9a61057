-- The names that are known to a writer.
use Rattle.std.specs.Prelude.{ℕ, Bool, cond, not, ◌&&◌, List, [], ◌∷◌, ◌++◌, map, length, nat_le}
use Rattle.std.specs.List.{list_any}
use Rattle.std.specs.Str.{bytes_eq}
use Rattle.arrayvec.specs.ArrayVec.{ArrayVec}
use Rattle.writer.specs.declared.types.Names.{Names}

abbrev pub letters : ArrayVec ℕ → List ℕ
letters n = n.items

abbrev pub known : Names → List (List ℕ)
known ns = map letters ns.each.items

abbrev pub is_known : List ℕ → List (List ℕ) → Bool
is_known n ms = list_any (λ m. bytes_eq m n) ms

-- the names that are known with one more
abbrev pub with_name : List (List ℕ) → List ℕ → List (List ℕ)
with_name ns n = cond (is_known n ns) ns (ns ++ n ∷ [])

-- a new name where 32 are known
abbrev pub is_one_too_many : List (List ℕ) → List ℕ → Bool
is_one_too_many ns n = nat_le 32 (length ns) && not (is_known n ns)
