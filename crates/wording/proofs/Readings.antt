-- Numbers and strings, as they are written, are read.
use Rattle.std.proofs.Common.{◌≡◌, ℕ, zero, suc, ◌/◌, ◌%◌, ◌^◌, ◌<◌, ◌≤◌, Bool, true, false, cond, eqb, leb, ◌⊎◌, List, [], ◌∷◌, ◌++◌, length, get_or, ℤ, pos, negsuc, Some, None, codes, decimal, refl, ap, ◌∙◌, inl, inr, arith, shr_lt}
use lib.Pow.{split}
use Rattle.std.specs.List.{flat_map}
use Rattle.std.specs.Char.{is_ascii_digit}
use Rattle.std.specs.Fmt.{signed_decimal}
use Rattle.std.specs.Str.{all_ascii_digits}
use Rattle.std.proofs.lemmas.Fmt.{decimal_digit, decimal_nonempty, first_decimal, length-decimal-le, digits_decimal, digits_value-decimal}
use Rattle.std.proofs.lemmas.List.{append_assoc}
use Rattle.std.proofs.lemmas.Bool.{and_parts, and_from, le-leb}
use Rattle.std.proofs.lemmas.Bool.Decides.{nat_tests}
use Rattle.listing.specs.Lines.{hex_digit, is_plain, quoted_byte}
use Rattle.wording.specs.Laws.{AreBytes, Is16Bits, Spaceless}
use Rattle.wording.specs.Numerals.{is_short, number_after, number_in, up_to, value_in, negated, unsigned, signed_in, coordinate_in}
use Rattle.wording.specs.Quotes.{slashed, goes, stands, closes, hex_in, high_turn, low_turn, escaped_turn, before, turned, unquoted_at, unquoted}
use Rattle.wording.specs.Texts.{given, behind}
use Rattle.wording.proofs.Decimal.{own, number_is}
use Rattle.wording.proofs.Quoting.{writing}

short_from : (ds : List ℕ) → 0 < length ds → length ds ≤ 5 → (length ds ≡ 1) ⊎ (48 < get_or ds 0 0) → is_short ds ≡ true
short_from ds s f (inl one) = grind (arith, nat_tests)
short_from ds s f (inr high) = grind (arith, nat_tests)

first : (n : ℕ) → n < 100000 → (length (decimal n) ≡ 1) ⊎ (48 < get_or (decimal n) 0 0)
first zero h = inl (ap length (decimal_digit 0 (omega arith)))
first (suc n) h = inr (first_decimal (suc n) (omega arith) (omega arith))

pub number_read : (n : ℕ) → n < 100000 → number_in (decimal n) ≡ Some n
number_read n h =
    let ds = decimal n in
    let low : n < 2 ^ 64 = omega arith in
    ap (λ b. cond b (number_after 0 ds) None) (short_from ds (decimal_nonempty n low) (length-decimal-le 5 n (omega arith) (omega arith) low) (first n h))
    ∙ number_is 0 ds ∙ (λ i. cond (digits_decimal own n low i) (Some (digits_value-decimal own n low i)) None)

pub value_read : (v : ℕ) → v < 256 → value_in (decimal v) ≡ Some v
value_read v h = ap (λ o. given o (up_to 255)) (number_read v (omega arith)) ∙ ap (λ b. cond b (Some v) None) (le-leb v 255 (omega arith))

no_minus : (ds : List ℕ) → all_ascii_digits ds ≡ true → behind (codes "-") ds ≡ None
no_minus [] e = refl
no_minus (c ∷ ds) e =
    let d = (and_parts (is_ascii_digit c) (all_ascii_digits ds) e).0 in
    let far : eqb 45 c ≡ false = grind (arith, nat_tests) in
    ap (λ b. cond b (Some ds) None) far

pub coordinate_read : (z : ℤ) → Is16Bits z → coordinate_in (signed_decimal z) ≡ Some z
coordinate_read (pos n) h =
    ap (signed_in (decimal n)) (no_minus (decimal n) (digits_decimal own n (omega arith))) ∙ ap (λ o. given o unsigned) (number_read n (omega arith)) ∙ ap (λ b. cond b (Some (pos n)) None) (le-leb n 32767 (omega arith))
coordinate_read (negsuc n) h =
    ap (λ o. given o negated) (number_read (suc n) (omega arith))
    ∙ ap (λ b. cond b (Some (negsuc n)) None) (and_from (leb 1 (suc n)) (leb (suc n) 32768) (le-leb 1 (suc n) (omega arith)) (le-leb (suc n) 32768 (omega arith)))

-- digits are no spaces
digits_spaceless : (ds : List ℕ) → all_ascii_digits ds ≡ true → Spaceless ds
digits_spaceless [] e = tt
digits_spaceless (c ∷ ds) e =
    let p = and_parts (is_ascii_digit c) (all_ascii_digits ds) e in
    let d = p.0 in
    ((λ s. grind (arith, nat_tests)), digits_spaceless ds p.1)

pub decimal_spaceless : (n : ℕ) → n < 100000 → Spaceless (decimal n)
decimal_spaceless n h = digits_spaceless (decimal n) (digits_decimal own n (omega arith))

pub signed_spaceless : (z : ℤ) → Is16Bits z → Spaceless (signed_decimal z)
signed_spaceless (pos n) h = decimal_spaceless n (omega arith)
signed_spaceless (negsuc n) h = ((λ s. omega arith), decimal_spaceless (suc n) (omega arith))

hex_read : (d : ℕ) → d < 16 → hex_in (hex_digit d) ≡ Some d
hex_read d h = grind (arith, nat_tests)

plain_is : (b : ℕ) → is_plain b ≡ true → (eqb b 34 ≡ false) × (eqb b 92 ≡ false)
plain_is b e = (grind (arith, nat_tests), grind (arith, nat_tests))

-- one byte more, where what follows it is read
byte_read : (b : ℕ) (t after : List ℕ) → b < 256 → unquoted (writing t after) ≡ Some (t, after) → (x : Bool) → is_plain b ≡ x
    → unquoted (cond x (b ∷ []) (92 ∷ 120 ∷ hex_digit (b / 16) ∷ hex_digit (b % 16) ∷ []) ++ writing t after) ≡ Some (b ∷ t, after)
byte_read b t after h ih true e =
    let n = plain_is b e in
    let more = writing t after in
    (λ i. turned (cond (n.0 i) (Some closes) (cond (n.1 i) (Some (goes slashed)) (cond (e i) (Some (stands b)) None))) more (λ z. unquoted_at z more)) ∙ ap (before (b ∷ [])) ih
byte_read b t after h ih false e =
    let more = writing t after in
    let low = hex_digit (b % 16) in
    (λ i. turned (high_turn (hex_read (b / 16) (shr_lt {n = b} 4 4 h) i)) (low ∷ more) (λ z. unquoted_at z (low ∷ more)))
    ∙ (λ i. turned (low_turn (b / 16) (hex_read (b % 16) (omega arith) i)) more (λ z. unquoted_at z more))
    ∙ ap (λ x. turned (escaped_turn x) more (λ z. unquoted_at z more)) (split b 4)
    ∙ ap (λ x. turned (cond x None (Some (stands b))) more (λ z. unquoted_at z more)) e
    ∙ ap (before (b ∷ [])) ih

pub string_read : (t after : List ℕ) → AreBytes t → unquoted (writing t after) ≡ Some (t, after)
string_read [] after h = refl
string_read (b ∷ t) after h = ap unquoted (append_assoc (quoted_byte b) (flat_map quoted_byte t) (34 ∷ after)) ∙ byte_read b t after h.0 (string_read t after h.1) (is_plain b) refl
