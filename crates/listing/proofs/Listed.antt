-- The lines of statements, one after the other.
use Rattle.std.proofs.Common.{◌≡◌, List, [], ◌∷◌, ◌++◌, sym, refl, ap, ◌∙◌}
use Rattle.std.proofs.lemmas.List.{append_assoc}
use Rattle.statement.specs.declared.types.Standing.{Standing}
use Rattle.statement.specs.Statements.{onwards}
use Rattle.spelling.specs.Walking.{Told}
use Rattle.listing.specs.Lines.{line_of, lines}

-- where one stands after statements
abbrev pub after : Standing → List Told → Standing
after st [] = st
after st (t ∷ ts) = after (onwards st t.said) ts

pub after_more : (st : Standing) (ts : List Told) (t : Told) → after st (ts ++ (t ∷ [])) ≡ onwards (after st ts) t.said
after_more st [] t = refl
after_more st (x ∷ ts) t = after_more (onwards st x.said) ts t

pub lines_more : (st : Standing) (ts : List Told) (t : Told) → lines st (ts ++ (t ∷ [])) ≡ lines st ts ++ (line_of (after st ts) t ++ (10 ∷ []))
lines_more st [] t = refl
lines_more st (x ∷ ts) t =
    ap (λ z. line_of st x ++ (10 ∷ z)) (lines_more (onwards st x.said) ts t) ∙ sym (append_assoc (line_of st x) (10 ∷ lines (onwards st x.said) ts) (line_of (after st (x ∷ ts)) t ++ (10 ∷ [])))
