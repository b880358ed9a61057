-- Texts cut into lines, and lines without their fill.
use Rattle.std.proofs.Common.{◌≡◌, ℕ, suc, ◌+◌, ◌-◌, ◌≤◌, min, Bool, true, false, cond, not, eqb, ltb, Some, None, List, [], ◌∷◌, length, take, drop, sym, refl, ap, ◌∙◌, inl, inr, arith, length-drop, one-add}
use Rattle.std.specs.Option.{unwrap_or}
use Rattle.std.specs.List.{position, position_or_len}
use Rattle.std.proofs.lemmas.List.Sums.{prefix_len-le-length}
use Rattle.std.proofs.lemmas.List.{take_all, drop_all}
use Rattle.std.proofs.lemmas.Bool.{true≢false, cases_lt, ne_eqb, ltb-false}
use Rattle.composing.specs.Lines.{on_first, lines_of, is_fill, bare}

-- how long the first line is
abbrev line_length : List ℕ → ℕ
line_length [] = 0
line_length (b ∷ bs) = cond (eqb b 10) 0 (suc (line_length bs))

-- the first line and the others, by whether its first byte ends it
by_first : (b : ℕ) (t : Bool) (bs : List ℕ)
    → ((c : ℕ) (cs : List ℕ) → bs ≡ c ∷ cs → lines_of bs ≡ take (line_length bs) bs ∷ lines_of (drop (line_length bs + 1) bs))
    → cond t ([] ∷ lines_of bs) (on_first b (lines_of bs)) ≡ take (cond t 0 (suc (line_length bs))) (b ∷ bs) ∷ lines_of (drop (cond t 0 (suc (line_length bs)) + 1) (b ∷ bs))
by_first b true bs others = refl
by_first b false [] others = refl
by_first b false (c ∷ cs) others =
    let n = line_length (c ∷ cs) in
    let e : suc n + 1 ≡ suc (n + 1) = omega arith in
    ap (on_first b) (others c cs refl) ∙ ap (λ k. (b ∷ take n (c ∷ cs)) ∷ lines_of (drop k (b ∷ c ∷ cs))) (sym e)

pub first_cut : (b : ℕ) (bs : List ℕ) → lines_of (b ∷ bs) ≡ take (line_length (b ∷ bs)) (b ∷ bs) ∷ lines_of (drop (line_length (b ∷ bs) + 1) (b ∷ bs))
first_cut b [] = by_first b (eqb b 10) [] (λ c cs e. let z : ◌≡◌ {A = ℕ} 0 1 = cc in absurd (omega arith))
first_cut b (x ∷ xs) = by_first b (eqb b 10) (x ∷ xs) (λ c cs e. first_cut x xs)

pub no_lines : (t : List ℕ) → eqb (length t) 0 ≡ true → lines_of t ≡ []
no_lines [] e = refl
no_lines (b ∷ bs) e = absurd (true≢false (sym e ∙ ne_eqb (length (b ∷ bs)) 0 (λ h. omega arith)))

pub some_length : (t : List ℕ) → eqb (length t) 0 ≡ false → 1 ≤ length t
some_length [] e = absurd (true≢false e)
some_length (b ∷ bs) e = omega arith

-- the rest of a text past a place that may lie behind its end
rest_min : (t : List ℕ) (k m : ℕ) → m ≡ min k (length t) → take (length t - m) (drop m t) ≡ drop k t
rest_min t k m e =
    let few : length (drop m t) ≤ length t - m = simp length-drop (omega arith) in
    take_all (length t - m) (drop m t) few
    ∙ elim (cases_lt k (length t)) [
      | inl h ↦ let same : m ≡ k = omega arith in ap (λ z. drop z t) same
      | inr h ↦ let past : length t ≤ m = omega arith in drop_all m t past ∙ sym (drop_all k t h)
    ]

cut_here : (t : List ℕ) → eqb (length t) 0 ≡ false → lines_of t ≡ take (line_length t) t ∷ lines_of (drop (line_length t + 1) t)
cut_here [] e = absurd (true≢false e)
cut_here (b ∷ bs) e = first_cut b bs

line_length_is : (t : List ℕ) → line_length t ≡ position_or_len (λ b. eqb b 10) t
line_length_is [] = refl
line_length_is (b ∷ bs) = by (eqb b 10) (line_length_is bs)
  where
    by : (t : Bool) → line_length bs ≡ position_or_len (λ b. eqb b 10) bs
        → cond t 0 (suc (line_length bs)) ≡ cond (not t) (1 + position_or_len (λ b. eqb b 10) bs) 0
    by true e = refl
    by false e = omega (arith, e)

pub next_cut : (t : List ℕ) (r m : ℕ) → eqb (length t) 0 ≡ false → r ≡ position_or_len (λ b. eqb b 10) t → m ≡ min (r + 1) (length t) → lines_of t ≡ take r t ∷ lines_of (take (length t - m) (drop m t))
next_cut t r m e f g =
    cut_here t e ∙ ap (λ k. take k t ∷ lines_of (drop (k + 1) t)) (line_length_is t ∙ sym f) ∙ ap (λ z. take r t ∷ lines_of z) (sym (rest_min t (r + 1) m g))

-- the place of the first that passes, or the end
pub or_end : (p : ℕ → Bool) (xs : List ℕ) → unwrap_or (position p xs) (length xs) ≡ position_or_len p xs
or_end p xs = by (ltb (position_or_len p xs) (length xs)) refl
  where
    by : (t : Bool) → ltb (position_or_len p xs) (length xs) ≡ t → unwrap_or (cond t (Some (position_or_len p xs)) None) (length xs) ≡ position_or_len p xs
    by true e = refl
    by false e =
        let past = ltb-false (position_or_len p xs) (length xs) e in
        let few = prefix_len-le-length (λ x. not (p x)) xs in
        omega arith

pub bare_at : (l : List ℕ) → bare l ≡ drop (position_or_len (λ b. not (is_fill b)) l) l
bare_at [] = refl
bare_at (b ∷ bs) = by (is_fill b) (bare_at bs)
  where
    by : (t : Bool) → bare bs ≡ drop (position_or_len (λ b. not (is_fill b)) bs) bs
        → cond t (bare bs) (b ∷ bs) ≡ drop (cond (not (not t)) (1 + position_or_len (λ b. not (is_fill b)) bs) 0) (b ∷ bs)
    by true e = let p = one-add (position_or_len (λ b. not (is_fill b)) bs) in e ∙ ap (λ k. drop k (b ∷ bs)) (sym p)
    by false e = refl
