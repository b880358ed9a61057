-- Which pixels a list of strokes inks, as the list grows and as a search goes along it.
use Rattle.std.proofs.Common.{◌≡◌, ℕ, zero, suc, ◌+◌, ◌<◌, Bool, true, false, ◌||◌, List, [], ◌∷◌, ◌++◌, length, get_or, take, set, ℤ, sym, refl, ap, ◌∙◌, le_of_suc-le-suc, arith}
use Rattle.std.proofs.lemmas.List.{take_more_set, take_more}
use Rattle.std.proofs.lemmas.Bool.{or_from, or_left, or_right, and_from, and_right}
use Rattle.std.proofs.Math.Bool.{or-false, or_assoc}
use Rattle.mark.specs.declared.Mark.{Mark}
use Rattle.mark.specs.Covers.{covers, on_sheet, reaches}
use Rattle.mark.proofs.Rules.{off_sheet}
use Rattle.strokes.specs.declared.records.Stroke.{Stroke}
use Rattle.strokes.specs.Strokes.{mark_of}
use Rattle.strokes.specs.Tables.{inked_by}

inked_push : (n : ℕ) (ss : List Stroke) (s : Stroke) (z : ℤ × ℤ) → inked_by n (ss ++ s ∷ []) z ≡ (inked_by n ss z || covers n (mark_of s) z)
inked_push n [] s z = or-false (covers n (mark_of s) z)
inked_push n (t ∷ ss) s z =
    ap (λ (b : Bool). covers n (mark_of t) z || b) (inked_push n ss s z)
    ∙ sym (or_assoc (covers n (mark_of t) z) (inked_by n ss z) (covers n (mark_of s) z))

-- a stroke written behind the first k inks its mark's pixels too
pub inked_more : (n k : ℕ) (ss : List Stroke) (s : Stroke) → k < length ss → (z : ℤ × ℤ) → inked_by n (take (k + 1) (set ss k s)) z ≡ (inked_by n (take k ss) z || covers n (mark_of s) z)
inked_more n k ss s h z = ap (λ (l : List Stroke). inked_by n l z) (take_more_set ss k s h) ∙ inked_push n (take k ss) s z

-- a mark that reaches a pixel of the sheet covers it
covers_on : (n : ℕ) (m : Mark) (z : ℤ × ℤ) → on_sheet n z ≡ true → reaches n m z ≡ true → covers n m z ≡ true
unfolding covers
covers_on n m z on hit = and_from (on_sheet n z) (reaches n m z) on hit

covers_not : (n : ℕ) (m : Mark) (z : ℤ × ℤ) → reaches n m z ≡ false → covers n m z ≡ false
unfolding covers
covers_not n m z miss = and_right (on_sheet n z) (reaches n m z) miss

-- no stroke inks a pixel off the sheet
pub inked_off : (n : ℕ) (ss : List Stroke) (z : ℤ × ℤ) → on_sheet n z ≡ false → inked_by n ss z ≡ false
inked_off n [] z off = refl
inked_off n (s ∷ ss) z off = or_from (covers n (mark_of s) z) (inked_by n ss z) (off_sheet n (mark_of s) z off) (inked_off n ss z off)

-- the search goes on: no stroke before i inks the pixel, and the stroke i does not reach it
pub inked_none : (n i : ℕ) (ss : List Stroke) (d : Stroke) (z : ℤ × ℤ) → i < length ss → inked_by n (take i ss) z ≡ false → reaches n (mark_of (get_or ss i d)) z ≡ false → inked_by n (take (i + 1) ss) z ≡ false
inked_none n i ss d z h before here =
    ap (λ (l : List Stroke). inked_by n l z) (take_more ss i d h) ∙ inked_push n (take i ss) (get_or ss i d) z
    ∙ or_from (inked_by n (take i ss) z) (covers n (mark_of (get_or ss i d)) z) before (covers_not n (mark_of (get_or ss i d)) z here)

-- the search ends: the stroke i inks the pixel
inked_one : (n i : ℕ) (ss : List Stroke) (d : Stroke) (z : ℤ × ℤ) → i < length ss → covers n (mark_of (get_or ss i d)) z ≡ true → inked_by n ss z ≡ true
inked_one n i [] d z h here = absurd (omega arith)
inked_one n zero (t ∷ ss) d z h here = or_left (covers n (mark_of t) z) (inked_by n ss z) here
inked_one n (suc i) (t ∷ ss) d z h here = or_right (covers n (mark_of t) z) (inked_by n ss z) (inked_one n i ss d z (le_of_suc-le-suc h) here)

-- the same, where the strokes are those of a table
pub inked_found : (n i : ℕ) (ss all : List Stroke) (d : Stroke) (z : ℤ × ℤ) → ss ≡ all → i < length ss → on_sheet n z ≡ true → reaches n (mark_of (get_or ss i d)) z ≡ true → true ≡ inked_by n all z
inked_found n i ss all d z same h on hit =
    sym (inked_one n i ss d z h (covers_on n (mark_of (get_or ss i d)) z on hit)) ∙ ap (λ (l : List Stroke). inked_by n l z) same
