-- How long lawful statements and their parts are.
use Rattle.std.proofs.Common.{ℕ, ◌+◌, ◌/◌, ◌%◌, ◌≤◌, Bool, true, false, cond, ◌&&◌, ltb, leb, List, [], ◌∷◌, ◌++◌, length, arith, length-append}
use Rattle.std.proofs.lemmas.Bool.{leb-true}
use Rattle.statement.specs.declared.types.Fault.TheVariants as fault
use Rattle.statement.specs.declared.types.Header.{Header}
use Rattle.statement.specs.Statements.{CallTail, Plain, null, travel, letters, escape, assign, mark, movemk, drawmk, plain, call, Said, erase, endpic, subhed, subend, act}
use Rattle.statement.specs.Reading.{is_text, is_name, lawful_tail, named_tail}
use Rattle.spelling.specs.Spelling.{spell_string, spell_tail, header_byte, spell, first_of, unless, tail_fits, Lawful}
use Rattle.spelling.proofs.Spelt.{neither, not_one}
use Rattle.spelling.proofs.Tails.{tail_short}

pub string_length : (t : List ℕ) → length (spell_string t) ≤ length t + 2
string_length t = by (ltb (length t) 128)
  where
    by : (b : Bool) → length (cond b (length t ∷ []) ((128 + length t / 256) ∷ (length t % 256) ∷ []) ++ t) ≤ length t + 2
    by true = omega arith
    by false = omega arith

-- a lawful name is short
heading_short : (n : List ℕ) (h : Header) → Lawful (subhed n h) → length n ≤ 8
heading_short n h l = leb-true (length n) 8 (neither (leb (length n) 8) fault.TooLong (unless (is_name n) fault.WrongCharacter) l).0

-- and so are the name and the tail of a lawful call
call_short : (n : List ℕ) (t : CallTail) → Lawful (act (call n t)) → (length n ≤ 8) × (length (spell_tail t) ≤ 14)
call_short n t l =
    let named = first_of (unless (lawful_tail t) fault.WrongCoordinate) (unless (is_name n && named_tail t) fault.WrongCharacter) in
    let p = neither (leb (length n) 8) fault.TooLong (first_of (unless (tail_fits t) fault.WrongLayout) named) l in
    (leb-true (length n) 8 p.0, tail_short t (neither (tail_fits t) fault.WrongLayout named p.1).0)

plain_short : (p : Plain) → Lawful (act (plain p)) → length (spell (act (plain p))) ≤ 516
plain_short null l = omega arith
plain_short (travel t a x y) l = omega arith
plain_short (letters m t) l =
    omega (arith, string_length t, leb-true (length t) 512 (neither (leb (length t) 512) fault.TooLong (unless (is_text t) fault.WrongCharacter) l).0)
plain_short (escape v t) l = omega (arith, string_length t, leb-true (length t) 512 (not_one (leb (length t) 512) fault.TooLong l))
plain_short (assign s v) l = omega arith
plain_short mark l = omega arith
plain_short movemk l = omega arith
plain_short drawmk l = omega arith

-- no lawful statement is longer than 516 bytes
pub lawful_short : (s : Said) → Lawful s → length (spell s) ≤ 516
lawful_short erase l = omega arith
lawful_short endpic l = omega arith
lawful_short (subhed n h) l = omega (arith, string_length n, heading_short n h l, length-append (spell_string n) (1 ∷ header_byte h ∷ []))
lawful_short subend l = omega arith
lawful_short (act (plain p)) l = plain_short p l
lawful_short (act (call n t)) l =
    let p = call_short n t l in
    omega (arith, string_length n, length-append (spell_string n) (length (spell_tail t) ∷ spell_tail t))
