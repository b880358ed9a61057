use Rattle.std.proofs.Common.{◌≡◌, ℕ, List, [], ◌∷◌, ◌++◌, map, vec_items, sym, ap, ◌∙◌}
use Rattle.std.proofs.lemmas.List.{map_push}
use Rattle.statement.specs.declared.types.Standing.{Standing}
use Rattle.walking.specs.declared.walker.Placed.{Placed}
use Rattle.walking.specs.Stories.{told_by, from_place}
use Rattle.spelling.specs.Walking.{Told, Walk}
use Rattle.walking.proofs.story.tell.Goals as goal

onward : (st st' : Standing) (at at' : ℕ) (seen bs : List ℕ) (ps qs : List Placed) (p : Placed) (w : Walk) → seen ≡ bs → qs ≡ ps ++ (p ∷ []) → from_place st at bs (map told_by ps) ≡ w
    → ((ts : List Told) → from_place st at seen ts ≡ from_place st' at' seen (ts ++ (told_by p ∷ []))) → from_place st' at' bs (map told_by qs) ≡ w
onward st st' at at' seen bs ps qs p w es eq inv step =
    ap (λ z. from_place st' at' bs (map told_by z)) eq ∙ ap (from_place st' at' bs) (map_push told_by ps p)
    ∙ ap (λ z. from_place st' at' z (map told_by ps ++ (told_by p ∷ []))) (sym es) ∙ sym (step (map told_by ps)) ∙ ap (λ z. from_place st at z (map told_by ps)) es ∙ inv

pub loop-placed-preserved : goal.loop-placed-preserved
loop-placed-preserved c =
    let w = c.args.walker in (
      c.next.ensures.bytes ∙ c.loop-placed.invariant.0,
      onward c.loop-placed.walker.standing c.next.new.self.standing c.loop-placed.walker.place c.next.new.self.place c.loop-placed.walker.bytes.now w.bytes.now
          (vec_items c.loop-placed.told) (vec_items c.push.new.self) c.in-Ok.placed (from_place w.standing w.place w.bytes.now []) c.loop-placed.invariant.0
          c.in_ok-push-in-Ok.ensures.items c.loop-placed.invariant.1 c.in-Ok.ensures.step,
    )
