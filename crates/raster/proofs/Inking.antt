-- What the pixels of a page are after one is inked.
use Rattle.std.proofs.Common.{◌≡◌, ℕ, ◌+◌, ◌<◌, Bool, true, false, ◌&&◌, ◌||◌, eqb, List, length, ℤ, pos, negsuc, nat_abs, None, sym, refl, ap, ◌∙◌, subst, inl, inr, add-one, arith}
use lib.Signed.{lt_z, le_z, non_neg}
use Rattle.std.specs.Ordering.{int_eq}
use Rattle.std.proofs.lemmas.Bool.Decides.{Decides-int_eq, nat_tests}
use Rattle.std.proofs.Math.Bool.{or-false}
use Rattle.std.proofs.lemmas.Bool.{ltb-true, cases_Bool, and_parts, and_left, and_right, false≢true}
use Rattle.geometry.specs.declared.field.Point.{Point}
use Rattle.geometry.specs.Lines.{point_of}
use Rattle.mark.specs.declared.LineMode.{LineMode}
use Rattle.mark.specs.declared.Mark.{Mark}
use Rattle.mark.specs.Covers.{on_sheet, same_pixel, any_below, inks_point, line_inks_at, has_dot, letter_dot, letter_inks_at, covers, reaches}
use Rattle.sheet.specs.Meanings.{gains}
use Rattle.raster.specs.declared.page.BitSheet.{BitSheet}
use Rattle.raster.specs.Sheets.{Inks}
use Rattle.raster.specs.Bits.{page_bytes, bit_at, inked_at, with_pixel, Gained, bit_meaning}
use Rattle.raster.proofs.Bytes.{within_row, bit_set}

part_on : (n : ℕ) (a : ℤ) → le_z (pos 0) a ≡ true → lt_z a (pos n) ≡ true → (nat_abs a < n) × (non_neg a ≡ true)
part_on n (pos m) h g = (ltb-true m n g, refl)
part_on n (negsuc m) h g = absurd (false≢true h)

-- both parts of a pixel on the sheet are natural, and below the side
pub on_within : (n : ℕ) (z : ℤ × ℤ) → on_sheet n z ≡ true → ((nat_abs z.0 < n) × (non_neg z.0 ≡ true)) × ((nat_abs z.1 < n) × (non_neg z.1 ≡ true))
on_within n z on =
    let p = and_parts (le_z (pos 0) z.0) (lt_z z.0 (pos n) && (le_z (pos 0) z.1 && lt_z z.1 (pos n))) on in
    let q = and_parts (lt_z z.0 (pos n)) (le_z (pos 0) z.1 && lt_z z.1 (pos n)) p.1 in
    let r = and_parts (le_z (pos 0) z.1) (lt_z z.1 (pos n)) q.1 in
    (part_on n z.0 p.0 q.0, part_on n z.1 r.0 r.1)

same_nat : (a b : ℤ) → non_neg a ≡ true → non_neg b ≡ true → int_eq a b ≡ eqb (nat_abs a) (nat_abs b)
same_nat (pos a) (pos b) h g = grind (arith, nat_tests)
same_nat (pos a) (negsuc b) h g = absurd (false≢true g)
same_nat (negsuc a) b h g = absurd (false≢true h)

guarded : (o a b c : Bool) → (o ≡ true → a ≡ (b || c)) → (o && a) ≡ ((o && b) || (o && c))
guarded true a b c f = f refl
guarded false a b c f = refl

-- a pixel on the sheet is inked by its bit
pub ink_on : (n : ℕ) (bytes : List ℕ) (z : ℤ × ℤ) → length bytes ≡ page_bytes n → on_sheet n z ≡ true → Gained n bytes (with_pixel n bytes z) (same_pixel z)
ink_on n bytes z e on w =
    guarded (on_sheet n w) (bit_at n (with_pixel n bytes z) (nat_abs w.0) (nat_abs w.1)) (bit_at n bytes (nat_abs w.0) (nat_abs w.1)) (same_pixel z w)
    (λ o.
    let a = on_within n z on in
    let b = on_within n w o in
    bit_set n bytes (nat_abs z.0) (nat_abs z.1) (nat_abs w.0) (nat_abs w.1) a.0.0 a.1.0 (within_row n (nat_abs w.0) b.0.0) e
    ∙ ap (λ (t : Bool). bit_at n bytes (nat_abs w.0) (nat_abs w.1) || t)
    (sym (λ i. same_nat z.0 w.0 a.0.1 b.0.1 i && same_nat z.1 w.1 a.1.1 b.1.1 i)))

-- equal pixels are both on the sheet
off_same : (n : ℕ) (z w : ℤ × ℤ) → on_sheet n z ≡ false → (on_sheet n w && same_pixel z w) ≡ false
off_same n z w off =
    elim (cases_Bool (same_pixel z w)) [
      | inl t ↦
          let p = and_parts (int_eq z.0 w.0) (int_eq z.1 w.1) t in
          let x = (Decides-int_eq z.0 w.0).0 p.0 in
          let y = (Decides-int_eq z.1 w.1).0 p.1 in
          and_left (on_sheet n w) (same_pixel z w) (sym (λ i. on_sheet n (x i, y i)) ∙ off)
      | inr f ↦ and_right (on_sheet n w) (same_pixel z w) f
    ]

none_gained : (a b : Bool) → b ≡ false → a ≡ (a || b)
none_gained a b e = sym (or-false a) ∙ ap (λ (x : Bool). a || x) (sym e)

-- a pixel off the sheet changes nothing
pub ink_off : (n : ℕ) (bytes : List ℕ) (z : ℤ × ℤ) → on_sheet n z ≡ false → Gained n bytes bytes (same_pixel z)
ink_off n bytes z off w = none_gained (inked_at n bytes w) (on_sheet n w && same_pixel z w) (off_same n z w off)

more : (a o p q : Bool) → ((a || (o && p)) || (o && q)) ≡ (a || (o && (q || p)))
more true o p q = refl
more false true true true = refl
more false true true false = refl
more false true false true = refl
more false true false false = refl
more false false p q = refl

-- the parts of a mark below j are inked: `parts w k` says that its part k inks the pixel w
abbrev pub SoFar : BitSheet → (ℤ × ℤ → ℕ → Bool) → BitSheet → ℕ → Type 0
SoFar begun parts s j = Inks begun s (λ w. any_below (parts w) j)

module _ (begun : BitSheet) (parts : ℤ × ℤ → ℕ → Bool) (k : ℕ) (s : BitSheet) where
  -- one part more
  pub part_more : (after : BitSheet) (own : ℤ × ℤ → Bool) → ((w : ℤ × ℤ) → parts w k ≡ own w) → Inks s after own → SoFar begun parts s k → SoFar begun parts after (k + 1)
  part_more after own is step inv =
      let n = begun.side.pixels in (
        step.0 ∙ inv.0,
        step.1 ∙ inv.1,
        λ w.
            subst (λ (j : ℕ). inked_at j after.bytes.now w ≡ (inked_at j s.bytes.now w || (on_sheet j w && own w))) inv.0 (step.2 w)
            ∙ (λ i. inv.2 w i || (on_sheet n w && sym (is w) i))
            ∙ more (inked_at n begun.bytes.now w) (on_sheet n w) (any_below (parts w) k) (parts w k)
            ∙ ap (λ (j : ℕ). inked_at n begun.bytes.now w || (on_sheet n w && any_below (parts w) j)) (sym (add-one k)),
      )

  -- one part more that inks nothing
  pub part_passed : ((w : ℤ × ℤ) → parts w k ≡ false) → SoFar begun parts s k → SoFar begun parts s (k + 1)
  part_passed none inv =
      let n = begun.side.pixels in (
        inv.0,
        inv.1,
        λ w.
            inv.2 w ∙ (λ i. inked_at n begun.bytes.now w || (on_sheet n w && (sym (none w) i || any_below (parts w) k)))
            ∙ ap (λ (j : ℕ). inked_at n begun.bytes.now w || (on_sheet n w && any_below (parts w) j)) (sym (add-one k)),
      )

  -- all parts
  pub parts_end : (j : ℕ) → k ≡ j → SoFar begun parts s k → SoFar begun parts s j
  parts_end j e inv = subst (λ (m : ℕ). SoFar begun parts s m) e inv

-- the part k of a line, and a dot of a letter, that is inked
pub point_own : (p q : ℤ × ℤ) (mode : LineMode) (k : ℕ) (z : ℤ × ℤ) → inks_point mode k ≡ true → z ≡ point_of p q k → (w : ℤ × ℤ) → line_inks_at p q mode w k ≡ same_pixel z w
point_own p q mode k z pick at w = λ i. pick i && same_pixel (sym at i) w

pub dot_own : (n : ℕ) (at : Point) (code row column : ℕ) (z : ℤ × ℤ) → has_dot code row column ≡ true → z ≡ letter_dot n at row column → (w : ℤ × ℤ) → letter_inks_at n at code w row column ≡ same_pixel z w
dot_own n at code row column z dot here w = λ i. dot i && same_pixel (sym here i) w

-- a page that gained a mark's pixels means the sheet with the mark
pub page_gains : (n m : ℕ) (bytes after : List ℕ) (mark : Mark) → m ≡ n → Gained n bytes after (reaches n mark) → bit_meaning m after ≡ gains (bit_meaning n bytes) mark None
unfolding covers
page_gains n m bytes after mark e f = λ i. record {
  side = e i;
  inked = λ z. (ap (λ (k : ℕ). inked_at k after z) e ∙ f z) i;
  stock = None;
  full = None;
}
