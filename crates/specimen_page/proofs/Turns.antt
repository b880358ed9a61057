-- Drawing one list of marks after another is drawing both.
use Rattle.std.proofs.Common.{◌≡◌, Bool, ◌&&◌, List, [], ◌∷◌, ◌++◌, is_ok, sym, refl, ap, ◌∙◌}
use Rattle.std.proofs.Math.Bool.{and_assoc}
use Rattle.mark.specs.declared.Mark.{Mark}
use Rattle.sheet.specs.Meanings.{Meaning, answer, marked, marked_all, takes_all}

pub marked_append : (a : Meaning) (ms ns : List Mark) → marked_all a (ms ++ ns) ≡ marked_all (marked_all a ms) ns
marked_append a [] ns = refl
marked_append a (m ∷ ms) ns = marked_append (marked a m) ms ns

pub takes_append : (a : Meaning) (ms ns : List Mark) → takes_all a (ms ++ ns) ≡ (takes_all a ms && takes_all (marked_all a ms) ns)
takes_append a [] ns = refl
takes_append a (m ∷ ms) ns =
    ap (λ (b : Bool). is_ok (answer a) && b) (takes_append (marked a m) ms ns)
    ∙ sym (and_assoc (is_ok (answer a)) (takes_all (marked a m) ms) (takes_all (marked_all (marked a m) ms) ns))

-- the marks ms, drawn on a sheet that means a, make it mean b, and x says whether all were taken
abbrev pub Drawn : Meaning → List Mark → Meaning → Bool → Type 0
Drawn a ms b x = (b ≡ marked_all a ms) × (x ≡ takes_all a ms)

pub drawn_as_lem : (a b : Meaning) (ms ns : List Mark) (x : Bool) → ms ≡ ns → Drawn a ms b x → Drawn a ns b x
drawn_as_lem a b ms ns x e d = (d.0 ∙ ap (marked_all a) e, d.1 ∙ ap (takes_all a) e)

pub drawn_both : (a b c : Meaning) (ms ns : List Mark) (x y : Bool) → Drawn a ms b x → Drawn b ns c y → Drawn a (ms ++ ns) c (x && y)
drawn_both a b c ms ns x y d e = (
  e.0 ∙ ap (λ (z : Meaning). marked_all z ns) d.0 ∙ sym (marked_append a ms ns),
  (λ i. d.1 i && (e.1 ∙ ap (λ (z : Meaning). takes_all z ns) d.0) i) ∙ sym (takes_append a ms ns),
)
