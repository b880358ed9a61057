-- The text of a page, pixel by pixel and row by row.
use Rattle.std.proofs.Common.{◌≡◌, ℕ, zero, suc, ◌+◌, ◌*◌, ◌<◌, ◌≤◌, List, [], ◌∷◌, ◌++◌, map, take, length, sym, ap, ◌∙◌, mul-le-mul_right, add-mul, one-mul, zero-add, zero-mul, add-one, arith, length-append}
use borrow.Rule.Slice.PartMut.{put_mid}
use lib.Arith.{digits_lt}
use Rattle.std.proofs.lemmas.Slice.{take-put_mid}
use Rattle.std.proofs.lemmas.List.FromFn.{length-map-range_with_len, map-range_with_len_more}
use Rattle.std.proofs.lemmas.List.{flat_map_more, map-id, length_push}
use Rattle.std.specs.List.{range_with_len, flat_map}
use Rattle.sheet.specs.Meanings.{Meaning}
use Rattle.printing.specs.Pages.{pixel_text, row_text, rows_text, page_text}

counting_more : (n : ℕ) → range_with_len 0 (n + 1) ≡ range_with_len 0 n ++ (n ∷ [])
counting_more n = sym (map-id (range_with_len 0 (n + 1))) ∙ map-range_with_len_more (λ x. x) 0 n n (zero-add n) ∙ ap (λ z. z ++ (n ∷ [])) (map-id (range_with_len 0 n))

module _ (m : Meaning) where
  length_row : (row : ℕ) → length (row_text m row) ≡ m.side + 1
  length_row row = length_push (map (pixel_text m row) (range_with_len 0 m.side)) 10 ∙ ap (λ z. z + 1) (length-map-range_with_len (pixel_text m row) 0 m.side)

  rows_more : (n : ℕ) → rows_text m (n + 1) ≡ rows_text m n ++ row_text m n
  rows_more n = ap (flat_map (row_text m)) (counting_more n) ∙ sym (flat_map_more (row_text m) [] (range_with_len 0 n) n)

  length_rows : (n : ℕ) → length (rows_text m n) ≡ n * (m.side + 1)
  length_rows zero = sym (zero-mul (m.side + 1))
  length_rows (suc n) =
      ap (λ z. length (rows_text m z)) (sym (add-one n)) ∙ ap length (rows_more n) ∙ length-append (rows_text m n) (row_text m n)
      ∙ ap (λ z. z + length (row_text m n)) (length_rows n) ∙ ap (λ z. n * (m.side + 1) + z) (length_row n)
      ∙ sym (add-mul n 1 (m.side + 1) ∙ ap (λ z. n * (m.side + 1) + z) (one-mul (m.side + 1))) ∙ ap (λ z. z * (m.side + 1)) (add-one n)

  pub page_counted : (side : ℕ) → m.side ≡ side → side * (side + 1) ≡ length (page_text m)
  page_counted side s = sym (length_rows m.side ∙ ap (λ z. z * (z + 1)) s)

  -- a row lies within the page
  pub row_fits : (row side : ℕ) → side ≡ m.side → row < side → row * (side + 1) + (side + 1) ≤ length (page_text m)
  row_fits row side s h =
      let d : side < side + 1 = omega arith in
      let k = digits_lt h d in
      omega (arith, k, page_counted side (sym s))

  -- a row written behind the rows above it
  pub row_laid : (out text : List ℕ) (row width k : ℕ) → width ≡ m.side + 1 → row * width ≤ length out → text ≡ row_text m row → take (row * width) out ≡ rows_text m row
      → take ((row + 1) * width) (put_mid (row * width) k out text) ≡ rows_text m (row + 1)
  row_laid out text row width k w h t e =
      let long : length text ≡ width = ap length t ∙ length_row row ∙ sym w in
      let end : (row + 1) * width ≡ row * width + length text = omega arith in
      take-put_mid (row * width) k out text ((row + 1) * width) end h ∙ (λ i. e i ++ t i) ∙ sym (rows_more row)

pub small_page : (side : ℕ) → side ≤ 2048 → side * (side + 1) ≤ 4196352
small_page side h = omega (arith, mul-le-mul_right (side + 1) h)
