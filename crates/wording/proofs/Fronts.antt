-- Texts taken apart at a space or behind a front.
use Rattle.std.proofs.Common.{◌≡◌, ℕ, suc, ◌+◌, ◌≤◌, Bool, true, false, cond, eqb, ltb, List, [], ◌∷◌, ◌++◌, length, take, drop, Some, None, Option, sym, refl, ap, ◌∙◌, arith, Bor, MatchOption}
use Rattle.std.specs.List.{position, position_or_len}
use Rattle.std.specs.Option.{option_map, unwrap_or}
use Rattle.std.proofs.lemmas.List.Recursion.{is_position_or_len}
use Rattle.std.proofs.lemmas.Bool.{eqb-true, eq-eqb, ne_eqb, ltb-false}
use Rattle.wording.specs.Laws.{Spaceless}
use Rattle.wording.specs.Texts.{word, rest, behind}

pub take_word : (t : List ℕ) → take (length (word t)) t ≡ word t
take_word [] = refl
take_word (c ∷ cs) =
    elim (eqb c 32) as (λ b. take (length (cond b [] (c ∷ word cs))) (c ∷ cs) ≡ cond b [] (c ∷ word cs)) [ true ↦ refl | false ↦ ap (λ z. c ∷ z) (take_word cs) ]

pub drop_word : (t : List ℕ) → drop (length (word t)) t ≡ rest t
drop_word [] = refl
drop_word (c ∷ cs) =
    elim (eqb c 32) as (λ b. drop (length (cond b [] (c ∷ word cs))) (c ∷ cs) ≡ cond b (c ∷ cs) (rest cs)) [ true ↦ refl | false ↦ drop_word cs ]

word_within : (t : List ℕ) → length (word t) ≤ length t
word_within [] = omega arith
word_within (c ∷ cs) =
    let h = word_within cs in
    elim (eqb c 32) as (λ b. length (cond b [] (c ∷ word cs)) ≤ suc (length cs)) [ true ↦ omega arith | false ↦ omega arith ]

-- the first space, or else the end, stands behind the first word
word_ends : (t : List ℕ) → length (word t) ≡ position_or_len (λ b. eqb b 32) t
word_ends = is_position_or_len (λ t. length (word t)) (λ b. eqb b 32) refl
    (λ c cs. elim (eqb c 32) as (λ b. length (cond b [] (c ∷ word cs)) ≡ cond b 0 (1 + length (word cs))) [ true ↦ refl | false ↦ omega arith ])

pub space_or_end : (t : List ℕ) → unwrap_or (position (λ b. eqb b 32) t) (length t) ≡ length (word t)
space_or_end t = go (ltb (position_or_len (λ b. eqb b 32) t) (length t)) refl
  where
    go : (b : Bool) → ltb (position_or_len (λ b. eqb b 32) t) (length t) ≡ b → unwrap_or (cond b (Some (position_or_len (λ b. eqb b 32) t)) None) (length t) ≡ length (word t)
    go true e = sym (word_ends t)
    go false e = omega (arith, word_ends t, word_within t, ltb-false (position_or_len (λ b. eqb b 32) t) (length t) e)

-- a text is its first word and the rest
pub word_rest : (t : List ℕ) → word t ++ rest t ≡ t
word_rest [] = refl
word_rest (c ∷ cs) =
    elim (eqb c 32) as (λ b. cond b [] (c ∷ word cs) ++ cond b (c ∷ cs) (rest cs) ≡ c ∷ cs) [ true ↦ refl | false ↦ ap (λ z. c ∷ z) (word_rest cs) ]

-- a front, and what follows it
pub behind_front : (p t : List ℕ) → behind p (p ++ t) ≡ Some t
behind_front [] t = refl
behind_front (x ∷ p) t = ap (λ b. cond b (behind p (p ++ t)) None) (eq-eqb x x refl) ∙ behind_front p t

pub front_behind : (p t u : List ℕ) → behind p t ≡ Some u → p ++ u ≡ t
front_behind [] t u e = cc
front_behind (x ∷ p) [] u e = cc
front_behind (x ∷ p) (c ∷ t) u e = go (eqb x c) refl e (front_behind p t u)
  where
    go : (b : Bool) → eqb x c ≡ b → cond b (behind p t) None ≡ Some u → (behind p t ≡ Some u → p ++ u ≡ t) → x ∷ (p ++ u) ≡ c ∷ t
    go true s f ih = λ i. eqb-true x c s i ∷ ih f i
    go false s f ih = cc

-- what `strip_prefix` finds
pub stripped : (p t : List ℕ) (r : Option (Bor (List ℕ))) → MatchOption r ((u : List ℕ) → t ≡ p ++ u → ⊥) (λ x. t ≡ p ++ x.now) → option_map (λ s. s.now) r ≡ behind p t
stripped p t None h = sym (none (behind p t) refl)
  where
    none : (o : Option (List ℕ)) → behind p t ≡ o → o ≡ None
    none None e = refl
    none (Some u) e = absurd (h u (sym (front_behind p t u e)))
stripped p t (Some x) h = sym (ap (behind p) h ∙ behind_front p x.now)

-- a text without a space, before one that begins with a space or is empty
pub word_append : (w t : List ℕ) → Spaceless w → word t ≡ [] → word (w ++ t) ≡ w
word_append [] t s e = e
word_append (c ∷ w) t s e = ap (λ b. cond b [] (c ∷ word (w ++ t))) (ne_eqb c 32 s.0) ∙ ap (λ z. c ∷ z) (word_append w t s.1 e)

pub rest_append : (w t : List ℕ) → Spaceless w → rest t ≡ t → rest (w ++ t) ≡ t
rest_append [] t s e = e
rest_append (c ∷ w) t s e = ap (λ b. cond b (c ∷ (w ++ t)) (rest (w ++ t))) (ne_eqb c 32 s.0) ∙ rest_append w t s.1 e
