-- A number is read in the one form in which it is written.
use Rattle.std.proofs.Common.{◌≡◌, ℕ, zero, suc, ◌+◌, ◌-◌, ◌*◌, ◌^◌, ◌<◌, ◌≤◌, Bool, true, false, cond, ◌&&◌, leb, List, [], ◌∷◌, length, get_or, ℤ, pos, neg_ℤ, Some, None, codes, decimal, Option, Result, Ok, Err, ◌≢◌, sym, refl, ap, ◌∙◌, arith}
use Rattle.std.specs.Char.{is_ascii_digit}
use Rattle.std.specs.Fmt.{signed_decimal}
use Rattle.std.specs.Result.{result_ok, OkIff}
use Rattle.std.specs.Str.{all_ascii_digits, IsUtf8}
use Rattle.std.specs.Str.Parse.{ParsesUnsigned}
use Rattle.std.proofs.lemmas.Fmt.{decimal-digits_value, IsAscii-from_digits}
use Rattle.std.proofs.lemmas.Str.{IsUtf8-from_ascii}
use Rattle.std.proofs.lemmas.Str.Parse.{IsNumeralModel, numerals_by_fold, tells_all_ascii_digits, digits_value_short, parse_plain}
use Rattle.std.proofs.lemmas.Option.{cond_some}
use Rattle.std.proofs.lemmas.Bool.{and_parts, and_from, and_right, leb-true}
use Rattle.std.proofs.lemmas.Bool.Decides.{nat_tests}
use Rattle.wording.specs.Numerals.{is_short, number_after, number_in, up_to, value_in, negated, unsigned, signed_in, coordinate_in}
use Rattle.wording.specs.Texts.{given, behind}
use Rattle.wording.proofs.Fronts.{front_behind}
use Rattle.wording.proofs.Tables.{come}

abbrev pub sum : ℕ → List ℕ → ℕ
sum n [] = n
sum n (d ∷ ds) = sum (n * 10 + (d - 48)) ds

pub own : IsNumeralModel (λ ds. all_ascii_digits ds ≡ true) (sum 0)
own = numerals_by_fold (λ ds. all_ascii_digits ds ≡ true) tells_all_ascii_digits sum (record { empty = λ n. refl; more = λ n c cs h. refl })

pub number_is : (n : ℕ) (ds : List ℕ) → number_after n ds ≡ cond (all_ascii_digits ds) (Some (sum n ds)) None
number_is n [] = refl
number_is n (d ∷ ds) =
    elim (is_ascii_digit d) as (λ b. cond b (number_after (n * 10 + (d - 48)) ds) None ≡ cond (b && all_ascii_digits ds) (Some (sum (n * 10 + (d - 48)) ds)) None)
    [ true ↦ number_is (n * 10 + (d - 48)) ds | false ↦ refl ]

few : (ds : List ℕ) → is_short ds ≡ true → length ds ≤ 5
few ds e = grind (arith, nat_tests)

some_digit : (ds : List ℕ) → is_short ds ≡ true → 0 < length ds
some_digit ds e = grind (arith, nat_tests)

first_digit : (ds : List ℕ) → is_short ds ≡ true → get_or ds 0 0 ≡ 48 → length ds ≡ 1
first_digit ds e z = grind (arith, nat_tests)

pub digits_utf8 : (ds : List ℕ) → all_ascii_digits ds ≡ true → IsUtf8 ds
digits_utf8 ds d = IsUtf8-from_ascii ds (IsAscii-from_digits ds (own.to ds d))

number_once : (ds : List ℕ) → number_in ds ≡ cond (is_short ds && all_ascii_digits ds) (Some (sum 0 ds)) None
number_once ds = ap (λ o. cond (is_short ds) o None) (number_is 0 ds) ∙ elim (is_short ds) as (λ b. cond b (cond (all_ascii_digits ds) (Some (sum 0 ds)) None) None ≡ cond (b && all_ascii_digits ds) (Some (sum 0 ds)) None) [ true ↦ refl | false ↦ refl ]

-- what is short and of digits is a number, and nothing else is
pub no_number : (ds : List ℕ) → all_ascii_digits ds ≡ false → None ≡ number_in ds
no_number ds d = sym (number_once ds ∙ ap (λ b. cond b (Some (sum 0 ds)) None) (and_right (is_short ds) (all_ascii_digits ds) d))

pub not_utf8 : (ds : List ℕ) → ¬ (IsUtf8 ds) → None ≡ number_in ds
not_utf8 ds n = go (all_ascii_digits ds) refl
  where
    go : (b : Bool) → all_ascii_digits ds ≡ b → None ≡ number_in ds
    go true d = absurd (n (digits_utf8 ds d))
    go false d = no_number ds d

pub parsed : {E : Type 0} (ds : List ℕ) (r : Result ℕ E) → is_short ds ≡ true → get_or ds 0 0 ≢ 43 → ParsesUnsigned 32 10 ds r → result_ok r ≡ number_in ds
parsed ds r s p h = go r (parse_plain own 32 ds r h p)
  where
    low : all_ascii_digits ds ≡ true → sum 0 ds < 2 ^ 32
    low d = omega (arith, digits_value_short own ds 5 d (few ds s))

    go : {E : Type 0} (r : Result ℕ E) → OkIff r ((all_ascii_digits ds ≡ true) × (0 < length ds) × (sum 0 ds < 2 ^ 32)) (sum 0 ds) → result_ok r ≡ number_in ds
    go (Ok x) k = ap Some k.1 ∙ sym (number_once ds ∙ ap (λ b. cond b (Some (sum 0 ds)) None) (and_from (is_short ds) (all_ascii_digits ds) s k.0.0))
    go (Err e) k = fails (all_ascii_digits ds) refl
      where
        fails : (b : Bool) → all_ascii_digits ds ≡ b → None ≡ number_in ds
        fails true d = absurd (k (d, some_digit ds s, low d))
        fails false d = no_number ds d

pub number_written : (ds : List ℕ) (n : ℕ) → number_in ds ≡ Some n → decimal n ≡ ds
number_written ds n e =
    let q = cond_some (is_short ds && all_ascii_digits ds) (sum 0 ds) n (sym (number_once ds) ∙ e) in
    let p = and_parts (is_short ds) (all_ascii_digits ds) q.0 in
    let low : sum 0 ds < 10 ^ 5 = digits_value_short own ds 5 p.1 (few ds p.0) in
    ap decimal (sym q.1) ∙ decimal-digits_value own ds p.1 (some_digit ds p.0) (first_digit ds p.0) (omega arith)

pub value_written : (ds : List ℕ) (v : ℕ) → value_in ds ≡ Some v → decimal v ≡ ds
value_written ds v e =
    let p = come (number_in ds) (up_to 255) v e in ap decimal (sym (cond_some (leb p.0 255) p.0 v p.2).1) ∙ number_written ds p.0 p.1

signed_negated : (n : ℕ) → 1 ≤ n → signed_decimal (neg_ℤ (pos n)) ≡ 45 ∷ decimal n
signed_negated zero h = absurd (omega arith)
signed_negated (suc n) h = refl

below_zero : (ds : List ℕ) (z : ℤ) → given (number_in ds) negated ≡ Some z → signed_decimal z ≡ 45 ∷ ds
below_zero ds z e =
    let p = come (number_in ds) negated z e in
    let q = cond_some (leb 1 p.0 && leb p.0 32768) (neg_ℤ (pos p.0)) z p.2 in
    ap signed_decimal (sym q.1) ∙ signed_negated p.0 (leb-true 1 p.0 (and_parts (leb 1 p.0) (leb p.0 32768) q.0).0)
    ∙ ap (λ t. 45 ∷ t) (number_written ds p.0 p.1)

from_zero : (ds : List ℕ) (z : ℤ) → given (number_in ds) unsigned ≡ Some z → signed_decimal z ≡ ds
from_zero ds z e =
    let p = come (number_in ds) unsigned z e in ap signed_decimal (sym (cond_some (leb p.0 32767) (pos p.0) z p.2).1) ∙ number_written ds p.0 p.1

pub coordinate_written : (cs : List ℕ) (z : ℤ) → coordinate_in cs ≡ Some z → signed_decimal z ≡ cs
coordinate_written cs z e = go (behind (codes "-") cs) refl e
  where
    go : (o : Option (List ℕ)) → behind (codes "-") cs ≡ o → signed_in cs o ≡ Some z → signed_decimal z ≡ cs
    go (Some ds) f h = below_zero ds z h ∙ front_behind (codes "-") cs ds f
    go None f h = from_zero cs z h
