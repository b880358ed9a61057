-- The lettering keeps its rules: tests over the whole table, which are computed.
use Rattle.std.proofs.Common.{◌≡◌, ℕ, ◌+◌, ◌-◌, ◌*◌, ◌<◌, ◌≤◌, Bool, true, not, eqb, ltb, leb, get_or, sym, refl, ◌∙◌, inl, inr, arith}
use Rattle.std.proofs.lemmas.Bool.{and_parts, and_from, ltb-true, leb-true, eqb-true, lt-ltb, le-leb, eq-eqb, cases_order, not-true, both_ways, cond-true, cond_both}
use Rattle.font.specs.Glyphs.{rows, in_font, glyph_row, Lawful}
use Rattle.font.proofs.Below.{all_below, passes, passing}

-- the row of the glyph at a place of the font, from 0 on
abbrev entry : ℕ → ℕ → ℕ
entry i row = get_or rows (i * 8 + row) 0

abbrev same : ℕ → ℕ → Bool
same i j = all_below (λ row. eqb (entry i row) (entry j row)) 8

small_test : all_below (λ k. ltb (get_or rows k 0) 32) 760 ≡ true
unfolding rows
small_test = refl

below_test : all_below (λ i. eqb (entry i 7) 0) 95 ≡ true
unfolding rows
below_test = refl

blank_test : all_below (λ row. eqb (entry 0 row) 0) 8 ≡ true
unfolding rows
blank_test = refl

distinct_test : all_below (λ i. all_below (λ j. not (same i j)) i) 95 ≡ true
unfolding rows
distinct_test = refl

-- every number of the table has five bits
pub stored_small : (k : ℕ) → k < 760 → get_or rows k 0 < 32
stored_small k h = ltb-true (get_or rows k 0) 32 (passes (λ k. ltb (get_or rows k 0) 32) 760 small_test k h)

within : (code row : ℕ) → in_font code row ≡ true → (32 ≤ code) × (code ≤ 126) × (row < 8)
within code row t =
    let low = and_parts (leb 32 code) _ t in
    let high = and_parts (leb code 126) (ltb row 8) low.1 in
    (leb-true 32 code low.0, leb-true code 126 high.0, ltb-true row 8 high.1)

glyph_entry : (code row : ℕ) → 32 ≤ code → code ≤ 126 → row < 8 → glyph_row code row ≡ entry (code - 32) row
glyph_entry code row l h b =
    cond-true (in_font code row) (entry (code - 32) row) 0
    (and_from (leb 32 code) _ (le-leb 32 code l) (and_from (leb code 126) (ltb row 8) (le-leb code 126 h) (lt-ltb row 8 b)))

-- what holds of 0 and of each row in the font holds of every row of every code
everywhere : (P : ℕ → Type 0) (code row : ℕ) → P 0 → (32 ≤ code → code ≤ 126 → row < 8 → P (entry (code - 32) row)) → P (glyph_row code row)
everywhere P code row none some =
    cond_both (in_font code row) (entry (code - 32) row) 0 P
    (λ t. let h = within code row t in some h.0 h.1 h.2)
    (λ f. none)

apart : (i j : ℕ) → i < 95 → j < i → ((row : ℕ) → row < 8 → entry i row ≡ entry j row) → ⊥
apart i j h l e =
    both_ways (same i j)
    (not-true (same i j) (passes (λ j. not (same i j)) i (passes (λ i. all_below (λ j. not (same i j)) i) 95 distinct_test i h) j l))
    (passing (λ row. eqb (entry i row) (entry j row)) 8 (λ row p. eq-eqb (entry i row) (entry j row) (e row p)))

distinct : (a b : ℕ) → 32 ≤ a → a ≤ 126 → 32 ≤ b → b ≤ 126 → ((row : ℕ) → row < 8 → glyph_row a row ≡ glyph_row b row) → a ≡ b
distinct a b la ha lb hb e =
    let f : (row : ℕ) → row < 8 → entry (a - 32) row ≡ entry (b - 32) row = λ row p. sym (glyph_entry a row la ha p) ∙ (e row p ∙ glyph_entry b row lb hb p) in
    elim (cases_order (a - 32) (b - 32)) [
      | inl s ↦ omega arith
      | inr o ↦ elim o [
        | inl l ↦ absurd (apart (b - 32) (a - 32) (omega arith) l (λ row p. sym (f row p)))
        | inr g ↦ absurd (apart (a - 32) (b - 32) (omega arith) g f)
      ]
    ]

pub lawful : Lawful
lawful = record {
  small = λ code row. everywhere (λ v. v < 32) code row (omega arith) (λ l h b. stored_small ((code - 32) * 8 + row) (omega arith));
  below = λ code. everywhere (λ v. v ≡ 0) code 7 refl (λ l h b. eqb-true (entry (code - 32) 7) 0 (passes (λ i. eqb (entry i 7) 0) 95 below_test (code - 32) (omega arith)));
  blank = λ row. everywhere (λ v. v ≡ 0) 32 row refl (λ l h b. eqb-true (entry 0 row) 0 (passes (λ row. eqb (entry 0 row) 0) 8 blank_test row b));
  distinct = distinct;
}
