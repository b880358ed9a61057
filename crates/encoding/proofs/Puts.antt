-- Bytes written one part after the other.
use Rattle.std.proofs.Common.{◌≡◌, ℕ, suc, ◌+◌, ◌≤◌, true, List, [], ◌∷◌, ◌++◌, length, take, drop, set, ℤ, Option, sym, refl, ap, ◌∙◌, subst, append_assoc, add-zero, arith, length-append}
use lib.Seq.{sets, sets-eq}
use Rattle.std.proofs.lemmas.List.{take_at, drop-drop}
use borrow.Rule.Slice.PartMut.{put_mid, post_of}
use Rattle.statement.specs.declared.types.Standing.{Standing}
use Rattle.statement.specs.Statements.{coded, Said, allowed}
use Rattle.spelling.specs.Spelling.{code_of, spell_as, spell_at, tail_byte, spell_tail, spell_arguments, spell, Lawful}
use Rattle.spelling.specs.Laws.{Reads}
use Rattle.spelling.specs.Answers.{over_front}
use Rattle.spelling.proofs.Spelt.{spelt}

pub sets_append : (xs ys out : List ℕ) (at : ℕ) → sets out at (xs ++ ys) ≡ sets (sets out at xs) (at + length xs) ys
sets_append [] ys out at = ap (λ z. sets out z ys) (sym (add-zero at))
sets_append (x ∷ xs) ys out at =
    let e : suc at + length xs ≡ at + suc (length xs) = omega arith in
    sets_append xs ys (set out at x) (suc at) ∙ ap (λ z. sets (sets (set out at x) (suc at) xs) z ys) e

-- a part of a buffer that holds what was copied into it
pub put_part : (at size : ℕ) (vs part l : List ℕ) → size ≡ length vs → part ≡ vs → at + length vs ≤ length l → put_mid at size l part ≡ sets l at vs
put_part at size vs part l n e h =
    (λ i. take at l ++ (e i ++ post_of at (n i) l))
    ∙ ap (λ z. take at l ++ (vs ++ z)) (drop-drop (length vs) at l)
    ∙ sym (append_assoc (take at l) vs (drop (at + length vs) l))
    ∙ sym (sets-eq vs l at h)

-- two parts
pub sets_then : (out mid end xs ys : List ℕ) (at next : ℕ) → mid ≡ sets out at xs → next ≡ at + length xs → end ≡ sets mid next ys → end ≡ sets out at (xs ++ ys)
sets_then out mid end xs ys at next p n q = q ∙ (λ i. sets (p i) (n i) ys) ∙ sym (sets_append xs ys out at)

-- what is written at the front
pub sets_front : (out xs : List ℕ) → length xs ≤ length out → sets out 0 xs ≡ over_front xs out
sets_front out xs h =
    let n : 0 + length xs ≡ length xs = omega arith in
    sets-eq xs out 0 (omega arith) ∙ ap (λ z. xs ++ drop z out) n

module _ (a : Option (List ℕ)) (p : Option (ℤ × ℤ)) where
  pub coded_length : length (spell_tail (coded a p)) ≡ 1 + (length (spell_as a) + length (spell_at p))
  coded_length = omega (arith, length-append (spell_as a) (spell_at p))

  -- the length, the code byte, the name and the point
  pub coded_bytes : (out b c end : List ℕ) (at next then size code : ℕ) → size ≡ length (spell_tail (coded a p)) → code ≡ tail_byte a p
      → b ≡ sets out at (size ∷ code ∷ []) → next ≡ at + 2 → c ≡ sets b next (spell_as a) → then ≡ next + length (spell_as a) → end ≡ sets c then (spell_at p)
      → end ≡ sets out at (length (spell_tail (coded a p)) ∷ spell_tail (coded a p))
  coded_bytes out b c end at next then size code es ec eb en e2 et e3 =
      sets_then out b end (size ∷ code ∷ []) (spell_as a ++ spell_at p) at next eb en (sets_then b c end (spell_as a) (spell_at p) next then e2 et e3)
      ∙ (λ i. sets out at (es i ∷ ec i ∷ (spell_as a ++ spell_at p)))

-- a code, then the arguments
pub statement_bytes : (s : Said) (old mid end : List ℕ) (code next : ℕ) → code ≡ code_of s → mid ≡ set old 0 code → next ≡ 1 → end ≡ sets mid next (spell_arguments s)
    → length (spell s) ≤ length old → end ≡ over_front (spell s) old
statement_bytes s old mid end code next ec em en ee h =
    ee ∙ (λ i. sets (em i) (en i) (spell_arguments s)) ∙ ap (λ b. sets (set old 0 b) 1 (spell_arguments s)) ec ∙ sets_front old (spell s) h

-- a lawful statement's spelling at the front of bytes reads as that statement
pub front_reads : (s : Said) (n : ℕ) (out old : List ℕ) → Lawful s → n ≡ length (spell s) → out ≡ over_front (spell s) old → (st : Standing) → allowed st (code_of s) ≡ true → Reads st (take n out) s
front_reads s n out old l e b st a =
    let front : take n out ≡ spell s = (λ i. take (e i) (b i)) ∙ take_at (spell s) (drop (length (spell s)) old) (length (spell s)) refl in
    subst (λ z. Reads st z s) (sym front) (spelt st s l a)
