use Rattle.std.proofs.Common.{◌≡◌, ℕ, List, ◌++◌, length, take, refl, ap, ◌∙◌}
use Rattle.std.proofs.lemmas.List.{take_at}
use Rattle.calls.proofs.types.Name.new.Goals as goal

front : (xs ys zs : List ℕ) → ys ≡ xs → take (length xs) (ys ++ zs) ≡ xs
front xs ys zs e = ap (λ y. take (length xs) (y ++ zs)) e ∙ take_at xs zs _ refl

pub returns : goal.returns
returns c = front c.args.letters.now c.copy_from_slice.new.self _ c.copy_from_slice.ensures.after
