-- The AS name of a tail.
use Rattle.std.proofs.Common.{◌≡◌, ℕ, ◌-◌, ◌≤◌, List, [], ◌∷◌, length, get_or, take, drop, Some, Option, sym, ap, ◌∙◌, arith}
use Rattle.std.proofs.lemmas.List.{take_rest}
use Rattle.std.proofs.lemmas.Bool.{cond-true, and_from, le-leb}
use Rattle.statement.specs.Statements.{CallTail}
use Rattle.statement.specs.Reading.{tail_as}

pub as_name :
    (k : Option (List ℕ) → List ℕ → Option CallTail) (bs : List ℕ) {name after : List ℕ} → 1 ≤ length bs → get_or bs 0 0 ≤ 8
    → get_or bs 0 0 ≤ length (take (length bs - 1) (drop 1 bs))
    → name ≡ take (get_or bs 0 0) (take (length bs - 1) (drop 1 bs)) → after ≡ drop (get_or bs 0 0) (take (length bs - 1) (drop 1 bs))
    → k (Some name) after ≡ tail_as k bs
as_name k [] h e l p q = absurd (omega arith)
as_name k (n ∷ rest) {name} {after} h e l p q =
    let t = take_rest (n ∷ rest) 1 in
    let l' : n ≤ length rest = rw t at l in
    ap (λ x. k (Some x) after) (p ∙ ap (take n) t)
    ∙ ap (λ x. k (Some (take n rest)) x) (q ∙ ap (drop n) t)
    ∙ sym (cond-true _ _ _ (and_from _ _ (le-leb n 8 e) (le-leb n (length rest) l')))
