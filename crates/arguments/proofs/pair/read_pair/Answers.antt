use Rattle.std.proofs.Common.{◌≡◌, ℕ, ◌≤◌, List, [], ◌∷◌, length, get_or, ◌∙◌, arith, w16, rules}
use Rattle.std.proofs.lemmas.Int.{to_z-of_z}
use Rattle.statement.specs.declared.layout.Trace.{Trace}
use Rattle.statement.specs.declared.layout.Aim.{Aim}
use Rattle.statement.specs.Reading.{Shape, coordinate, travelled, pair}
use Rattle.statement.specs.Views.{shape_of}
use Rattle.arguments.proofs.pair.read_pair.Goals as goal

four :
    (t : Trace) (a : Aim) (bs : List ℕ) (s : Shape) → 4 ≤ length bs
    → s ≡ travelled t a (coordinate (get_or bs 0 0) (get_or bs 1 0)) (coordinate (get_or bs 2 0) (get_or bs 3 0)) → s ≡ pair t a bs
four t a [] s h e = absurd (omega arith)
four t a (p ∷ []) s h e = absurd (omega arith)
four t a (p ∷ q ∷ []) s h e = absurd (omega arith)
four t a (p ∷ q ∷ r ∷ []) s h e = absurd (omega arith)
four t a (p ∷ q ∷ r ∷ u ∷ bs) s h e = e

pub returns-in-len4-up : goal.returns-in-len4-up
returns-in-len4-up c =
    let x = to_z-of_z w16 c.coordinate_of.result (record { sfits = c.coordinate_of.type_inv }) ∙ c.coordinate_of.ensures in
    let y = to_z-of_z w16 c.coordinate_of-in-len4-up.result (record { sfits = c.coordinate_of-in-len4-up.type_inv }) ∙ c.coordinate_of-in-len4-up.ensures in
    record {
      value = four c.args.trace c.args.aim c.args.rest.now (shape_of c.lawful_travel.result) (search rules) (c.lawful_travel.ensures.value ∙ simp (x, y));
      parts = c.lawful_travel.ensures.parts;
      stands = c.lawful_travel.ensures.stands;
    }
