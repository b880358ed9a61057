-- A stroke written to the first free record is one mark more.
use Rattle.std.proofs.Common.{◌≡◌, ℕ, suc, ◌+◌, ◌-◌, ◌<◌, List, length, set, Some, sym, refl, ap, ◌∙◌, arith, length-set}
use Rattle.mark.specs.declared.Mark.{Mark}
use Rattle.mark.specs.declared.Mark.TheVariants.{Dot, Line, Letter}
use Rattle.sheet.specs.Meanings.{marked, marked_by}
use Rattle.strokes.specs.declared.records.Stroke.{Stroke}
use Rattle.strokes.specs.Strokes.{mark_of, stroke_of}
use Rattle.strokes.specs.Tables.{table_meaning}
use Rattle.strokes.proofs.Inking.{inked_more}

-- the stroke of a mark keeps that mark
pub kept : (m : Mark) → mark_of (stroke_of m) ≡ m
kept (Dot at) = refl
kept (Line from to mode) = refl
kept (Letter at code) = refl

module _ (n k : ℕ) (ss : List Stroke) where
  room : k < length ss → length ss - k ≡ suc (length ss - (k + 1))
  room h = omega arith

  stroke_more : (s : Stroke) → k < length ss → table_meaning n (k + 1) (set ss k s) ≡ marked (table_meaning n k ss) (mark_of s)
  stroke_more s h =
      let same = length-set ss k s in
      let one : table_meaning n (k + 1) (set ss k s) ≡ marked_by (Some (suc (length ss - (k + 1)))) (table_meaning n k ss) (mark_of s) =
      (λ i. record {
        side = n;
        inked = λ z. inked_more n k ss s h z i;
        stock = Some (same i - (k + 1));
        full = Some (same i);
      }) in
      one ∙ ap (λ (m : ℕ). marked_by (Some m) (table_meaning n k ss) (mark_of s)) (sym (room h))

  pub mark_more : (m : Mark) → k < length ss → table_meaning n (k + 1) (set ss k (stroke_of m)) ≡ marked (table_meaning n k ss) m
  mark_more m h = stroke_more (stroke_of m) h ∙ ap (marked (table_meaning n k ss)) (kept m)
