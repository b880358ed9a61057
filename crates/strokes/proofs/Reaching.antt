-- Whether a stroke reaches a pixel, by its kind.
use Rattle.std.proofs.Common.{◌≡◌, ℕ, suc, ◌+◌, ◌<◌, Bool, true, false, ℤ, sym, ap, ◌∙◌, arith}
use Rattle.geometry.specs.declared.field.Point.{Point}
use Rattle.geometry.specs.Lines.{steps_of}
use Rattle.geometry.specs.Places.{point_pixel}
use Rattle.mark.specs.declared.LineMode.{LineMode}
use Rattle.mark.specs.Covers.{reaches, any_below, line_inks_at, line_inks, letter_inks_at, letter_inks, rows_ink, same_pixel}
use Rattle.mark.proofs.Any.{some_at}
use Rattle.strokes.specs.declared.records.Kind.{Kind}
use Rattle.strokes.specs.declared.records.Kind.TheVariants.{Dot, Line, Letter}
use Rattle.strokes.specs.declared.records.Stroke.{Stroke}
use Rattle.strokes.specs.Strokes.{mark_of, mark_by}

line_hit : (p q : ℤ × ℤ) (mode : LineMode) (z : ℤ × ℤ) (k : ℕ) → k < steps_of p q + 1 → line_inks_at p q mode z k ≡ true → line_inks p q mode z ≡ true
unfolding line_inks
line_hit p q mode z k h t = some_at (line_inks_at p q mode z) (suc (steps_of p q)) k (omega arith) t

line_miss : (p q : ℤ × ℤ) (mode : LineMode) (z : ℤ × ℤ) (k : ℕ) → k ≡ steps_of p q + 1 → any_below (line_inks_at p q mode z) k ≡ false → line_inks p q mode z ≡ false
unfolding line_inks
line_miss p q mode z k e t = let last : suc (steps_of p q) ≡ k = omega (arith, e) in ap (any_below (line_inks_at p q mode z)) last ∙ t

letter_hit : (n : ℕ) (at : Point) (code : ℕ) (z : ℤ × ℤ) (row column : ℕ) → row < 8 → column < 5 → letter_inks_at n at code z row column ≡ true → letter_inks n at code z ≡ true
unfolding letter_inks
letter_hit n at code z row column h g t =
    some_at (λ r. any_below (letter_inks_at n at code z r) 5) 8 row h (some_at (letter_inks_at n at code z row) 5 column g t)

letter_miss : (n : ℕ) (at : Point) (code : ℕ) (z : ℤ × ℤ) (rows : ℕ) → rows ≡ 8 → rows_ink n at code z rows ≡ false → letter_inks n at code z ≡ false
unfolding letter_inks
letter_miss n at code z rows e t = ap (rows_ink n at code z) (sym e) ∙ t

module _ (n : ℕ) (s : Stroke) (z : ℤ × ℤ) where
  pub dot_is : (b : Bool) → s.kind ≡ Dot → same_pixel (point_pixel n s.from) z ≡ b → reaches n (mark_of s) z ≡ b
  dot_is b e t = ap (λ (k : Kind). reaches n (mark_by k s) z) e ∙ t

  is_line : (p q : ℤ × ℤ) → s.kind ≡ Line → p ≡ point_pixel n s.from → q ≡ point_pixel n s.to → reaches n (mark_of s) z ≡ line_inks p q s.mode z
  is_line p q e pe qe = ap (λ (k : Kind). reaches n (mark_by k s) z) e ∙ (λ i. line_inks (sym pe i) (sym qe i) s.mode z)

  pub line_reaches : (p q : ℤ × ℤ) (k : ℕ) → s.kind ≡ Line → p ≡ point_pixel n s.from → q ≡ point_pixel n s.to → k < steps_of p q + 1 → line_inks_at p q s.mode z k ≡ true → reaches n (mark_of s) z ≡ true
  line_reaches p q k e pe qe h t = is_line p q e pe qe ∙ line_hit p q s.mode z k h t

  pub line_misses : (p q : ℤ × ℤ) (k : ℕ) → s.kind ≡ Line → p ≡ point_pixel n s.from → q ≡ point_pixel n s.to → k ≡ steps_of p q + 1 → any_below (line_inks_at p q s.mode z) k ≡ false → reaches n (mark_of s) z ≡ false
  line_misses p q k e pe qe h t = is_line p q e pe qe ∙ line_miss p q s.mode z k h t

  is_letter : s.kind ≡ Letter → reaches n (mark_of s) z ≡ letter_inks n s.from s.code z
  is_letter e = ap (λ (k : Kind). reaches n (mark_by k s) z) e

  pub letter_reaches : (row column : ℕ) → s.kind ≡ Letter → row < 8 → column < 5 → letter_inks_at n s.from s.code z row column ≡ true → reaches n (mark_of s) z ≡ true
  letter_reaches row column e h g t = is_letter e ∙ letter_hit n s.from s.code z row column h g t

  pub letter_misses : (rows : ℕ) → s.kind ≡ Letter → rows ≡ 8 → rows_ink n s.from s.code z rows ≡ false → reaches n (mark_of s) z ≡ false
  letter_misses rows e h t = is_letter e ∙ letter_miss n s.from s.code z rows h t
