-- The bits of the bytes after one is set.
use Rattle.std.proofs.Common.{◌≡◌, ℕ, zero, suc, ◌+◌, ◌-◌, ◌*◌, ◌/◌, ◌%◌, ◌^◌, ◌<◌, Bool, true, false, ◌&&◌, ◌||◌, eqb, List, length, get_or, set, sym, refl, ap, ◌∙◌, subst, inl, inr, arith, lit<, get_or-set_other, get_or-set_same}
use lib.Bits.{bit_or}
use Rattle.std.proofs.lemmas.Nat.{or_shr, or_mod, mul-add-lt, div-mul-add, mod-mul-add, mod_below}
use Rattle.std.proofs.lemmas.Bool.{eqb-true, eq-eqb, ne_eqb, cases_eq, and_left, and_right, or_from}
use Rattle.std.proofs.Math.Bool.{or-false}
use Rattle.font.proofs.Below.{all_below, passes}
use Rattle.raster.specs.Bits.{row_bytes, page_bytes, bit_of, with_bit, bit_at, Clean}

-- 128 >> k
pub mask_is : (k : ℕ) → k < 8 → 128 / 2 ^ k ≡ 2 ^ (7 - k)
mask_is k h = eqb-true (128 / 2 ^ k) (2 ^ (7 - k)) (passes (λ k. eqb (128 / 2 ^ k) (2 ^ (7 - k))) 8 refl k h)

abbrev one : Bool → ℕ
one true = 1
one false = 0

mask_bit : (j k : ℕ) → j < 8 → k < 8 → 2 ^ (7 - k) / 2 ^ (7 - j) % 2 ≡ one (eqb j k)
mask_bit j k h g =
    eqb-true (2 ^ (7 - k) / 2 ^ (7 - j) % 2) (one (eqb j k))
    (passes (λ k. eqb (2 ^ (7 - k) / 2 ^ (7 - j) % 2) (one (eqb j k))) 8
    (passes (λ j. all_below (λ k. eqb (2 ^ (7 - k) / 2 ^ (7 - j) % 2) (one (eqb j k))) 8) 8 refl j h) k g)

or_one : (x : ℕ) (b : Bool) → x < 2 → eqb (bit_or x (one b)) 1 ≡ (eqb x 1 || b)
or_one zero true h = refl
or_one zero false h = refl
or_one (suc zero) true h = refl
or_one (suc zero) false h = refl
or_one (suc (suc x)) b h = absurd (omega arith)

-- setting the bit at place k sets no other
with_bit_at : (b j k : ℕ) → j < 8 → k < 8 → bit_of (with_bit b k) j ≡ (bit_of b j || eqb j k)
with_bit_at b j k h g =
    let s : bit_or b (2 ^ (7 - k)) / 2 ^ (7 - j) ≡ bit_or (b / 2 ^ (7 - j)) (2 ^ (7 - k) / 2 ^ (7 - j)) = or_shr b (2 ^ (7 - k)) (7 - j) in
    let m : bit_or (b / 2 ^ (7 - j)) (2 ^ (7 - k) / 2 ^ (7 - j)) % 2 ≡ bit_or (b / 2 ^ (7 - j) % 2) (2 ^ (7 - k) / 2 ^ (7 - j) % 2) = or_mod (b / 2 ^ (7 - j)) (2 ^ (7 - k) / 2 ^ (7 - j)) 1 in
    let o = mask_bit j k h g in
    ap (λ (x : ℕ). eqb (x % 2) 1) s ∙ ap (λ (x : ℕ). eqb x 1) (m ∙ ap (bit_or (b / 2 ^ (7 - j) % 2)) o)
    ∙ or_one (b / 2 ^ (7 - j) % 2) (eqb j k) (mod_below (b / 2 ^ (7 - j)) 2 (omega arith))

pub within_row : (n c : ℕ) → c < n → c / 8 < row_bytes n
within_row n c h = omega arith

pub within_page : (n c r : ℕ) → c < n → r < n → r * row_bytes n + c / 8 < page_bytes n
within_page n c r h g = mul-add-lt r (row_bytes n) (c / 8) n g (within_row n c h)

-- two places of one byte are of one row, and of one group of eight columns
row_same : (w a b r s : ℕ) → a < w → b < w → r * w + a ≡ s * w + b → (r ≡ s) × (a ≡ b)
row_same w a b r s h g e = (
  sym (div-mul-add r w a h) ∙ ap (λ (x : ℕ). x / w) e ∙ div-mul-add s w b g,
  sym (mod-mul-add r w a h) ∙ ap (λ (x : ℕ). x % w) e ∙ mod-mul-add s w b g,
)

columns : (x c y r : ℕ) → r ≡ y → c / 8 ≡ x / 8 → eqb (c % 8) (x % 8) ≡ (eqb x c && eqb y r)
columns x c y r e d =
    let t : eqb y r ≡ true = eq-eqb y r (sym e) in
    elim (cases_eq (c % 8) (x % 8)) [
      | inl same ↦ let q : eqb x c ≡ true = eq-eqb x c (omega arith) in eq-eqb (c % 8) (x % 8) same ∙ sym (λ i. q i && t i)
      | inr apart ↦ let q : eqb x c ≡ false = ne_eqb x c (λ o. apart (ap (λ (k : ℕ). k % 8) (sym o))) in ne_eqb (c % 8) (x % 8) apart ∙ sym (λ i. q i && t i)
    ]

not_both : (x c y r : ℕ) → ((x ≡ c) → (y ≡ r) → ⊥) → (eqb x c && eqb y r) ≡ false
not_both x c y r f =
    elim (cases_eq x c) [
      | inl p ↦ elim (cases_eq y r) [
        | inl q ↦ absurd (f p q)
        | inr q ↦ and_right (eqb x c) (eqb y r) (ne_eqb y r q)
      ]
      | inr p ↦ and_left (eqb x c) (eqb y r) (ne_eqb x c p)
    ]

-- the bit at column c, row r, after that of column x, row y is set
pub bit_set : (n : ℕ) (bytes : List ℕ) (x y c r : ℕ) → x < n → y < n → c / 8 < row_bytes n → length bytes ≡ page_bytes n
    → bit_at n (set bytes (y * row_bytes n + x / 8) (with_bit (get_or bytes (y * row_bytes n + x / 8) 0) (x % 8))) c r ≡ (bit_at n bytes c r || (eqb x c && eqb y r))
bit_set n bytes x y c r h g l e =
    let v = with_bit (get_or bytes (y * row_bytes n + x / 8) 0) (x % 8) in
    elim (cases_eq (r * row_bytes n + c / 8) (y * row_bytes n + x / 8)) [
      | inl same ↦
          let inside : y * row_bytes n + x / 8 < length bytes = subst (λ (m : ℕ). y * row_bytes n + x / 8 < m) (sym e) (within_page n x y h g) in
          let both = row_same (row_bytes n) (c / 8) (x / 8) r y l (within_row n x h) same in
          ap (λ (k : ℕ). bit_of (get_or (set bytes (y * row_bytes n + x / 8) v) k 0) (c % 8)) same
          ∙ ap (λ (b : ℕ). bit_of b (c % 8)) (get_or-set_same bytes (y * row_bytes n + x / 8) v 0 inside)
          ∙ with_bit_at (get_or bytes (y * row_bytes n + x / 8) 0) (c % 8) (x % 8) (mod_below c 8 (lit< tt)) (mod_below x 8 (lit< tt))
          ∙ (λ i. bit_of (get_or bytes (sym same i) 0) (c % 8) || columns x c y r both.0 both.1 i)
      | inr other ↦
          ap (λ (b : ℕ). bit_of b (c % 8)) (get_or-set_other bytes (y * row_bytes n + x / 8) (r * row_bytes n + c / 8) v 0 other)
          ∙ sym (or-false (bit_at n bytes c r))
          ∙ ap (λ (b : Bool). bit_at n bytes c r || b) (sym (not_both x c y r (λ p q. other (λ i. sym q i * row_bytes n + sym p i / 8))))
    ]

pub clean_set : (n : ℕ) (bytes : List ℕ) (x y : ℕ) → x < n → y < n → length bytes ≡ page_bytes n → Clean n bytes → Clean n (set bytes (y * row_bytes n + x / 8) (with_bit (get_or bytes (y * row_bytes n + x / 8) 0) (x % 8)))
clean_set n bytes x y h g e clean c r spare =
    bit_set n bytes x y c r h g (omega arith) e
    ∙ or_from (bit_at n bytes c r) (eqb x c && eqb y r) (clean c r spare) (and_left (eqb x c) (eqb y r) (ne_eqb x c (λ p. omega arith)))
