-- Things found in tables, and what comes of them.
use Rattle.std.proofs.Common.{◌≡◌, ℕ, Bool, true, false, cond, List, [], ◌∷◌, ◌++◌, Some, None, Option, sym, refl, ap, ◌∙◌}
use Rattle.std.specs.Option.{option_or}
use Rattle.std.specs.List.{AllByRecursion}
use Rattle.std.proofs.lemmas.Option.{same_Some}
use Rattle.std.proofs.lemmas.Slice.Eq.{bytes_eq-Decides}
use Rattle.std.specs.Str.{bytes_eq}
use Rattle.wording.specs.Texts.{given, entry}

-- one table behind another
pub entry_append : {A : Type 0} (xs ys : List (List ℕ × A)) (n : List ℕ) → entry (xs ++ ys) n ≡ option_or (entry xs n) (entry ys n)
entry_append [] ys n = refl
entry_append (x ∷ xs) ys n =
    elim (bytes_eq x.0 n) as (λ b. cond b (Some x.1) (entry (xs ++ ys) n) ≡ option_or (cond b (Some x.1) (entry xs n)) (entry ys n)) [ true ↦ refl | false ↦ entry_append xs ys n ]

-- what came of something came of a thing that was there
pub come : {A B : Type 0} (o : Option A) (k : A → Option B) (b : B) → given o k ≡ Some b → (a : A) × (o ≡ Some a) × (k a ≡ Some b)
come None k b e = absurd (cc)
come (Some a) k b e = (a, refl, e)

-- a table of names, in which each thing stands under its own
pub entry_named : {A : Type 0} (name : A → List ℕ) (es : List (List ℕ × A)) → AllByRecursion (λ e. name e.1 ≡ e.0) es → (n : List ℕ) (a : A) → entry es n ≡ Some a → name a ≡ n
entry_named name [] all n a e = absurd (cc)
entry_named {A} name (x ∷ es) all n a e = go (bytes_eq x.0 n) refl e (entry_named name es all.1 n a)
  where
    go : (t : Bool) → bytes_eq x.0 n ≡ t → cond t (Some x.1) (entry es n) ≡ Some a → (entry es n ≡ Some a → name a ≡ n) → name a ≡ n
    go true s f ih = ap name (sym (same_Some x.1 a f)) ∙ all.0 ∙ (bytes_eq-Decides x.0 n).0 s
    go false s f ih = ih f
