-- The memory of a page tells its side.
use Rattle.std.proofs.Common.{◌≡◌, ℕ, suc, ◌*◌, ◌<◌, ◌≤◌, List, length, Ok, sym, ap, ◌∙◌, subst, mul-suc, arith}
use Rattle.std.proofs.lemmas.Nat.{mul-le}
use Rattle.std.proofs.lemmas.Bool.Decides.{nat_tests}
use Rattle.sheet.specs.Meanings.{Meaning}
use Rattle.raster.specs.Asking.{asked}
use Rattle.raster.specs.Bits.{row_bytes, page_bytes, Clean, bit_meaning}

-- a larger side takes more bytes
more_bytes : (n m : ℕ) → n < m → page_bytes n < page_bytes m
more_bytes n m h =
    let rows : row_bytes n ≤ row_bytes m = omega arith in
    let some : 1 ≤ row_bytes m = omega arith in
    let narrow : row_bytes n * n ≤ row_bytes m * n = mul-le (row_bytes n) n (row_bytes m) n rows (omega arith) in
    let wide : row_bytes m * suc n ≤ row_bytes m * m = mul-le (row_bytes m) (suc n) (row_bytes m) m (omega arith) (omega arith) in
    omega (arith, narrow, wide, mul-suc (row_bytes m) n)

not_more : (n m : ℕ) → page_bytes n ≡ page_bytes m → n < m → ⊥
not_more n m e h = omega (arith, more_bytes n m h)

-- so the bytes tell the side
side_of_bytes : (n m : ℕ) → page_bytes n ≡ page_bytes m → n ≡ m
side_of_bytes n m e =
    let up : n < m → ⊥ = not_more n m e in
    let down : m < n → ⊥ = not_more m n (sym e) in
    grind (arith)

-- memory that was asked for has the bytes of its page
asked_bytes : (n len : ℕ) → asked n len ≡ Ok tt → len ≡ page_bytes n
asked_bytes n len h = grind (arith, nat_tests)

-- memory that was asked for, and in the end is the bytes of a sheet, has the sheet's side
module _ (n m : ℕ) (before bytes after : List ℕ) (a : asked n (length before) ≡ Ok tt) (w : length bytes ≡ page_bytes m) (l : length after ≡ length before) (is : after ≡ bytes) where
  side_kept : m ≡ n
  side_kept = side_of_bytes m n (sym w ∙ ap length (sym is) ∙ l ∙ asked_bytes n (length before) a)

  -- so it holds the sheet's page
  pub page_kept : (drawn : Meaning) → bit_meaning m bytes ≡ drawn → bit_meaning n after ≡ drawn
  page_kept drawn e = (λ i. bit_meaning (sym side_kept i) (is i)) ∙ e

  pub spare_kept : Clean m bytes → Clean n after
  spare_kept e = subst (λ (k : ℕ). Clean k after) side_kept (subst (λ (x : List ℕ). Clean m x) (sym is) e)
