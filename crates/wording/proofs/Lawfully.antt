-- A lawful statement in bytes has words that can be read.
use Rattle.std.proofs.Common.{◌≡◌, ℕ, true, ◌&&◌, leb, List, [], ◌∷◌, length, ℤ, pos, negsuc, Some, None, Option, arith}
use Rattle.std.proofs.lemmas.Bool.{and_parts, leb-true}
use Rattle.std.proofs.lemmas.Bool.Decides.{nat_tests}
use Rattle.statement.specs.declared.layout.Aim.{Aim}
use Rattle.statement.specs.declared.layout.Aim.TheVariants as aim
use Rattle.statement.specs.declared.types.Fault.TheVariants as fault
use Rattle.statement.specs.Reading.{lawful, is_text, is_name_code, are_name_codes, is_name, lawful_at, lawful_tail, is_as_name, named_tail}
use Rattle.statement.specs.Statements.{CallTail, empty, coded, Plain, null, travel, letters, escape, assign, mark, movemk, drawmk, plain, call, Said, erase, endpic, subhed, subend, act}
use Rattle.spelling.proofs.Spelt.{neither, not_one}
use Rattle.spelling.specs.Spelling.{first_of, unless, tail_fits, Lawful}
use Rattle.wording.specs.Laws.{AreBytes, Is16Bits, Spaceless, AsWordable, AtWordable, TailWordable, PlainWordable, Wordable, PlainInBytes, InBytes}

codes_spaceless : (n : List ℕ) → are_name_codes n ≡ true → Spaceless n
codes_spaceless [] e = tt
codes_spaceless (c ∷ n) e =
    let p = and_parts (is_name_code c) (are_name_codes n) e in
    let d = p.0 in
    ((λ s. grind (arith, nat_tests)), codes_spaceless n p.1)

codes_bytes : (n : List ℕ) → are_name_codes n ≡ true → AreBytes n
codes_bytes [] e = tt
codes_bytes (c ∷ n) e =
    let p = and_parts (is_name_code c) (are_name_codes n) e in
    let d = p.0 in
    (grind (arith, nat_tests), codes_bytes n p.1)

name_spaceless : (n : List ℕ) → is_name n ≡ true → Spaceless n
name_spaceless [] e = tt
name_spaceless (c ∷ n) e = codes_spaceless (c ∷ n) e

text_bytes : (t : List ℕ) → is_text t ≡ true → AreBytes t
text_bytes [] e = tt
text_bytes (b ∷ t) e =
    let p = and_parts (leb b 127) (is_text t) e in
    let l = leb-true b 127 p.0 in
    (omega arith, text_bytes t p.1)

coordinate_fits : (a : Aim) (z : ℤ) → lawful a z ≡ true → Is16Bits z
coordinate_fits aim.Absolute (pos n) e = let l = leb-true n 16383 e in omega arith
coordinate_fits aim.Absolute (negsuc n) e = let l = leb-true n 16383 (and_parts (leb n 16383) true e).0 in omega arith
coordinate_fits aim.Relative (pos n) e = let l = leb-true n 32767 e in omega arith
coordinate_fits aim.Relative (negsuc n) e = let l = leb-true n 32766 (and_parts (leb n 32766) true e).0 in omega arith

pair_fits : (a : Aim) (x y : ℤ) → (lawful a x && lawful a y) ≡ true → Is16Bits x × Is16Bits y
pair_fits a x y e = let p = and_parts (lawful a x) (lawful a y) e in (coordinate_fits a x p.0, coordinate_fits a y p.1)

as_wordable : (a : Option (List ℕ)) → is_as_name a ≡ true → AsWordable a
as_wordable None e = tt
as_wordable (Some n) e = codes_bytes n e

at_wordable : (p : Option (ℤ × ℤ)) → lawful_at p ≡ true → AtWordable p
at_wordable None e = tt
at_wordable (Some p) e = pair_fits aim.Absolute p.0 p.1 e

tail_wordable : (t : CallTail) → lawful_tail t ≡ true → named_tail t ≡ true → TailWordable t
tail_wordable empty l n = tt
tail_wordable (coded a p) l n = (as_wordable a n, at_wordable p l)

call_wordable : (n : List ℕ) (t : CallTail) → Lawful (act (call n t)) → Spaceless n × TailWordable t
call_wordable n t e =
    let named = unless (is_name n && named_tail t) fault.WrongCharacter in
    let lawfully = unless (lawful_tail t) fault.WrongCoordinate in
    let fitting = unless (tail_fits t) fault.WrongLayout in
    let p = neither (leb (length n) 8) fault.TooLong (first_of fitting (first_of lawfully named)) e in
    let q = neither (tail_fits t) fault.WrongLayout (first_of lawfully named) p.1 in
    let r = neither (lawful_tail t) fault.WrongCoordinate named q.1 in
    let m = and_parts (is_name n) (named_tail t) (not_one (is_name n && named_tail t) fault.WrongCharacter r.1) in
    (name_spaceless n m.0, tail_wordable t r.0 m.1)

plain_wordable : (p : Plain) → Lawful (act (plain p)) → PlainInBytes p → PlainWordable p
plain_wordable null e b = tt
plain_wordable (travel t a x y) e b = pair_fits a x y (not_one (lawful a x && lawful a y) fault.WrongCoordinate e)
plain_wordable (letters m t) e b =
    text_bytes t (not_one (is_text t) fault.WrongCharacter (neither (leb (length t) 512) fault.TooLong (unless (is_text t) fault.WrongCharacter) e).1)
plain_wordable (escape v t) e b = b
plain_wordable (assign s v) e b = b
plain_wordable mark e b = tt
plain_wordable movemk e b = tt
plain_wordable drawmk e b = tt

pub wordable : (s : Said) → Lawful s → InBytes s → Wordable s
wordable erase e b = tt
wordable endpic e b = tt
wordable (subhed n h) e b =
    name_spaceless n (not_one (is_name n) fault.WrongCharacter (neither (leb (length n) 8) fault.TooLong (unless (is_name n) fault.WrongCharacter) e).1)
wordable subend e b = tt
wordable (act (plain p)) e b = plain_wordable p e b
wordable (act (call n t)) e b = call_wordable n t e
