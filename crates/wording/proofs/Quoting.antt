-- A string between quotes is read in the one form in which it is written.
use Rattle.std.proofs.Common.{◌≡◌, ℕ, ◌+◌, ◌-◌, ◌*◌, ◌/◌, ◌%◌, ◌<◌, Bool, true, false, cond, ◌&&◌, eqb, leb, List, [], ◌∷◌, ◌++◌, Some, None, Option, sym, refl, ap, ◌∙◌, arith}
use Rattle.std.proofs.lemmas.Option.{same_Some}
use Rattle.std.specs.List.{flat_map}
use lib.Pow.{high, low}
use Rattle.std.proofs.lemmas.List.{append_assoc}
use Rattle.std.proofs.lemmas.Bool.{eqb-true, cond-true, cond-false}
use Rattle.std.proofs.lemmas.Bool.Decides.{nat_tests}
use Rattle.listing.specs.Lines.{hex_digit, is_plain, quoted_byte}
use Rattle.wording.specs.Quotes.{Spot, between, slashed, at_high, at_low, goes, stands, closes, hex_in, high_turn, low_turn, turn_at, before, turned, unquoted_at, unquoted}

abbrev Found : Type 0
Found = List ℕ × List ℕ

-- the string and what follows it, as they are written
abbrev pub writing : List ℕ → List ℕ → List ℕ
writing t after = flat_map quoted_byte t ++ (34 ∷ after)

-- what was read of a byte's form
abbrev pub held : Spot → List ℕ
held between = []
held slashed = 92 ∷ []
held at_high = 92 ∷ 120 ∷ []
held (at_low h) = 92 ∷ 120 ∷ hex_digit h ∷ []

pub hex_written : (c d : ℕ) → hex_in c ≡ Some d → (hex_digit d ≡ c) × (d < 16)
hex_written c d e = go (leb 48 c && leb c 57) refl e
  where
    letter : (b : Bool) → (leb 97 c && leb c 102) ≡ b → cond b (Some (c - 87)) None ≡ Some d → (hex_digit d ≡ c) × (d < 16)
    letter true h f = let q : c - 87 ≡ d = same_Some (c - 87) d f in (grind (arith, nat_tests), grind (arith, nat_tests))
    letter false h f = absurd (cc)

    go : (b : Bool) → (leb 48 c && leb c 57) ≡ b → cond b (Some (c - 48)) (cond (leb 97 c && leb c 102) (Some (c - 87)) None) ≡ Some d → (hex_digit d ≡ c) × (d < 16)
    go true h f = let q : c - 48 ≡ d = same_Some (c - 48) d f in (grind (arith, nat_tests), grind (arith, nat_tests))
    go false h f = letter (leb 97 c && leb c 102) refl f

-- a byte before what was found
before_come : (b : ℕ) (o : Option Found) (t after : List ℕ) → before (b ∷ []) o ≡ Some (t, after) → (u : List ℕ) × (o ≡ Some (u, after)) × (b ∷ u ≡ t)
before_come b None t after e = absurd (cc)
before_come b (Some p) t after e =
    let q : ◌≡◌ {A = Found} (b ∷ p.0, p.1) (t, after) = same_Some (b ∷ p.0, p.1) (t, after) e in (p.0, ap (λ z. Some (p.0, z)) (ap (λ z. z.1) q), ap (λ z. z.0) q)

-- one character more, where what follows it is as it is written
module _ (c : ℕ) (cs t after : List ℕ) (k : Spot → Option Found) (ih : (z : Spot) → (u : List ℕ) → k z ≡ Some (u, after) → held z ++ cs ≡ writing u after) where
  none : {A : Type 0} → ◌≡◌ {A = Option Found} None (Some (t, after)) → A
  none e = absurd (cc)

  -- a byte that stands in this form
  byte_written : (b : ℕ) (form : List ℕ) → quoted_byte b ≡ form → before (b ∷ []) (k between) ≡ Some (t, after) → form ++ cs ≡ writing t after
  byte_written b form q e =
      let p = before_come b (k between) t after e in
      (λ i. sym q i ++ ih between p.0 p.1 i) ∙ sym (append_assoc (quoted_byte b) (flat_map quoted_byte p.0) (34 ∷ after)) ∙ ap (λ z. writing z after) p.2

  plain_written : (x : Bool) → is_plain c ≡ x → turned (cond x (Some (stands c)) None) cs k ≡ Some (t, after) → c ∷ cs ≡ writing t after
  plain_written true h e = byte_written c (c ∷ []) (cond-true (is_plain c) (c ∷ []) (92 ∷ 120 ∷ hex_digit (c / 16) ∷ hex_digit (c % 16) ∷ []) h) e
  plain_written false h e = none e

  slash_written : (x : Bool) → eqb c 92 ≡ x → turned (cond x (Some (goes slashed)) (cond (is_plain c) (Some (stands c)) None)) cs k ≡ Some (t, after) → c ∷ cs ≡ writing t after
  slash_written true h e = ap (λ z. z ∷ cs) (eqb-true c 92 h) ∙ ih slashed t e
  slash_written false h e = plain_written (is_plain c) refl e

  between_written : (x : Bool) → eqb c 34 ≡ x → turned (cond x (Some closes) (cond (eqb c 92) (Some (goes slashed)) (cond (is_plain c) (Some (stands c)) None))) cs k ≡ Some (t, after) → c ∷ cs ≡ writing t after
  between_written true h e =
      let q : ◌≡◌ {A = Found} ([], cs) (t, after) = same_Some ([], cs) (t, after) e in ap (λ z. z ∷ cs) (eqb-true c 34 h) ∙ ap (λ z. writing z.0 z.1) q
  between_written false h e = slash_written (eqb c 92) refl e

  letter_written : (x : Bool) → eqb c 120 ≡ x → turned (cond x (Some (goes at_high)) None) cs k ≡ Some (t, after) → 92 ∷ c ∷ cs ≡ writing t after
  letter_written true h e = ap (λ z. 92 ∷ z ∷ cs) (eqb-true c 120 h) ∙ ih at_high t e
  letter_written false h e = none e

  high_written : (o : Option ℕ) → hex_in c ≡ o → turned (high_turn o) cs k ≡ Some (t, after) → 92 ∷ 120 ∷ c ∷ cs ≡ writing t after
  high_written None h e = none e
  high_written (Some d) h e = let w = hex_written c d h in ap (λ z. 92 ∷ 120 ∷ z ∷ cs) (sym w.0) ∙ ih (at_low d) t e

  escape_written : (h d : ℕ) → hex_digit d ≡ c → d < 16 → (x : Bool) → is_plain (h * 16 + d) ≡ x → turned (cond x None (Some (stands (h * 16 + d)))) cs k ≡ Some (t, after) → 92 ∷ 120 ∷ hex_digit h ∷ c ∷ cs ≡ writing t after
  escape_written h d l m true p e = none e
  escape_written h d l m false p e =
      byte_written (h * 16 + d) (92 ∷ 120 ∷ hex_digit h ∷ c ∷ [])
      (cond-false (is_plain (h * 16 + d)) ((h * 16 + d) ∷ []) (92 ∷ 120 ∷ hex_digit ((h * 16 + d) / 16) ∷ hex_digit ((h * 16 + d) % 16) ∷ []) p
      ∙ (λ i. 92 ∷ 120 ∷ hex_digit (high h 4 {lo = d} m i) ∷ hex_digit (low h 4 {lo = d} m i) ∷ []) ∙ ap (λ z. 92 ∷ 120 ∷ hex_digit h ∷ z ∷ []) l)
      e

  low_written : (h : ℕ) (o : Option ℕ) → hex_in c ≡ o → turned (low_turn h o) cs k ≡ Some (t, after) → 92 ∷ 120 ∷ hex_digit h ∷ c ∷ cs ≡ writing t after
  low_written h None f e = none e
  low_written h (Some d) f e = let w = hex_written c d f in escape_written h d w.0 w.1 (is_plain (h * 16 + d)) refl e

  step_written : (s : Spot) → turned (turn_at s c) cs k ≡ Some (t, after) → held s ++ (c ∷ cs) ≡ writing t after
  step_written between e = between_written (eqb c 34) refl e
  step_written slashed e = letter_written (eqb c 120) refl e
  step_written at_high e = high_written (hex_in c) refl e
  step_written (at_low h) e = low_written h (hex_in c) refl e

written_at : (s : Spot) (cs t after : List ℕ) → unquoted_at s cs ≡ Some (t, after) → held s ++ cs ≡ writing t after
written_at s [] t after e = absurd (cc)
written_at s (c ∷ cs) t after e = step_written c cs t after (λ z. unquoted_at z cs) (λ z u. written_at z cs u after) s e

pub string_written : (cs : List ℕ) (p : List ℕ × List ℕ) → unquoted cs ≡ Some p → writing p.0 p.1 ≡ cs
string_written cs p e = sym (written_at between cs p.0 p.1 e)
