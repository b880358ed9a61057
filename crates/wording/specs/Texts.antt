-- Texts taken apart.
use Rattle.std.specs.Prelude.{ℕ, cond, List, [], ◌∷◌, Some, None, Option, ◌==◌}
use Rattle.std.specs.Str.{bytes_eq}

-- what comes of a thing, if there is one
abbrev pub given : {A B : Type 0} → Option A → (A → Option B) → Option B
given None k = None
given (Some a) k = k a

-- what stands before the first space
abbrev pub word : List ℕ → List ℕ
word [] = []
word (c ∷ cs) = cond (c == 32) [] (c ∷ word cs)

-- what stands from the first space on
abbrev pub rest : List ℕ → List ℕ
rest [] = []
rest (c ∷ cs) = cond (c == 32) (c ∷ cs) (rest cs)

-- what follows a front, if the text has that front
abbrev pub behind : List ℕ → List ℕ → Option (List ℕ)
behind [] cs = Some cs
behind (p ∷ ps) [] = None
behind (p ∷ ps) (c ∷ cs) = cond (p == c) (behind ps cs) None

-- what a table has under a text
abbrev pub entry : {A : Type 0} → List (List ℕ × A) → List ℕ → Option A
entry [] n = None
entry (e ∷ es) n = cond (bytes_eq e.0 n) (Some e.1) (entry es n)
