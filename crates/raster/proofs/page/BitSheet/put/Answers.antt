use Rattle.std.proofs.Common.{◌≡◌, ℕ, ◌%◌, List, get_or, set, ℤ, nat_abs, sym, refl, ◌∙◌, subst, length-set, w32, SFits, to_z, of_z, rules}
use Rattle.std.proofs.lemmas.Int.{to_z-of_z}
use Rattle.mark.specs.Covers.{same_pixel}
use Rattle.raster.specs.Bits.{byte_of, with_bit, with_pixel, Clean, Gained}
use Rattle.raster.proofs.Bytes.{clean_set}
use Rattle.raster.proofs.Inking.{on_within, ink_on, ink_off}
use Rattle.raster.proofs.page.BitSheet.put.Goals as goal

pub returns-then-not-on_sheet : goal.returns-then-not-on_sheet
returns-then-not-on_sheet c =
    let t = c.args.self.now in
    (refl, refl, ink_off t.side.pixels t.bytes.now c.args.pixel (sym c.if-not-on_sheet.ensures))

-- what is written, as the code has it, is the bytes with the pixel's bit set
written : (n at b : ℕ) (bytes : List ℕ) (z : ℤ × ℤ) → SFits w32 z.0 → at ≡ byte_of n z → b ≡ with_bit (get_or bytes at 0) (nat_abs (to_z w32 (of_z w32 z.0)) % 8) → set bytes at b ≡ with_pixel n bytes z
written n at b bytes z f e h =
    let is : b ≡ with_bit (get_or bytes (byte_of n z) 0) (nat_abs z.0 % 8) = h ∙ (λ i. with_bit (get_or bytes (e i) 0) (nat_abs (to_z-of_z w32 z.0 f i) % 8)) in
    λ i. set bytes (e i) (is i)

pub invariant_of-self : goal.invariant_of-self
invariant_of-self c =
    let t = c.args.self.now in
    let n = t.side.pixels in
    let z = c.args.pixel in
    let is = written n c.place-at.result c.with_bit.result t.bytes.now z (search rules) c.place-at.ensures.value c.with_bit.ensures in
    let on = on_within n z (sym c.if-not-on_sheet.ensures) in
    record {
      whole = length-set _ _ _ ∙ t.whole;
      spare = subst (λ (b : List ℕ). Clean n b) (sym is) (clean_set n t.bytes.now (nat_abs z.0) (nat_abs z.1) on.0.0 on.1.0 t.whole t.spare);
    }

pub returns : goal.returns
returns c =
    let t = c.args.self.now in
    let n = t.side.pixels in
    let z = c.args.pixel in
    let is = written n c.place-at.result c.with_bit.result t.bytes.now z (search rules) c.place-at.ensures.value c.with_bit.ensures in
    (refl, refl, subst (λ (b : List ℕ). Gained n t.bytes.now b (same_pixel z)) (sym is) (ink_on n t.bytes.now z t.whole (sym c.if-not-on_sheet.ensures)))
