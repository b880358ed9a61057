-- Tests of names, and parts of a buffer.
use Rattle.std.proofs.Common.{◌≡◌, ℕ, ◌+◌, ◌-◌, ◌≤◌, Bool, List, [], ◌∷◌, ◌++◌, ◌||◌, map, length, take, drop, sym, refl, ap, ◌∙◌, append_assoc, arith, length-drop}
use Rattle.std.proofs.lemmas.List.{append-nil, drop-drop, drop_all, take_all}
use Rattle.std.specs.List.{list_any}
use Rattle.spelling.specs.Answers.{over_front}
use lib.Seq.{sets, sets-eq}
use borrow.Rule.Slice.PartMut.{put_mid}

pub any_of_map : {X Y : Type 0} (p : X → Bool) (h : Y → X) (ys : List Y) → list_any p (map h ys) ≡ list_any (λ y. p (h y)) ys
any_of_map p h [] = refl
any_of_map p h (y ∷ ys) = ap (λ b. p (h y) || b) (any_of_map p h ys)

-- the rest of a buffer, at whose front some bytes were put
pub put_rest : (at : ℕ) (vs part l : List ℕ) → part ≡ over_front vs (take (length l - at) (drop at l)) → at + length vs ≤ length l → put_mid at (length l - at) l part ≡ sets l at vs
put_rest at vs part l e h =
    let size = length l - at in
    let whole : take size (drop at l) ≡ drop at l = take_all size (drop at l) (omega (arith, length-drop at l)) in
    let none : drop size (drop at l) ≡ [] = drop_all size (drop at l) (omega (arith, length-drop at l)) in
    ap (λ z. take at l ++ (part ++ z)) none
    ∙ ap (λ z. take at l ++ z) (append-nil part ∙ e ∙ ap (λ z. vs ++ drop (length vs) z) whole ∙ ap (λ z. vs ++ z) (drop-drop (length vs) at l))
    ∙ sym (append_assoc (take at l) vs (drop (at + length vs) l))
    ∙ sym (sets-eq vs l at h)
