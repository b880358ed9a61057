-- The words of a statement read as that statement.
use Rattle.std.proofs.Common.{◌≡◌, ℕ, ◌<◌, List, [], ◌∷◌, ◌++◌, ℤ, Some, None, codes, decimal, Option, sym, refl, ap, ◌∙◌, arith}
use Rattle.std.proofs.lemmas.Option.{same_Some}
use Rattle.std.specs.List.{flat_map}
use Rattle.std.specs.Fmt.{signed_decimal}
use Rattle.std.proofs.lemmas.List.{append_assoc}
use Rattle.statement.specs.declared.layout.Trace.{Trace}
use Rattle.statement.specs.declared.layout.Trace.TheVariants as trace
use Rattle.statement.specs.declared.layout.Aim.{Aim}
use Rattle.statement.specs.declared.layout.Aim.TheVariants as aim
use Rattle.statement.specs.declared.layout.Manner.{Manner}
use Rattle.statement.specs.declared.layout.Manner.TheVariants as manner
use Rattle.statement.specs.declared.layout.Setting.{Setting}
use Rattle.statement.specs.declared.layout.Setting.TheVariants as setting
use Rattle.statement.specs.declared.layout.Layout.TheVariants as layout
use Rattle.statement.specs.declared.types.Header.{Header}
use Rattle.statement.specs.declared.types.Header.TheVariants as header
use Rattle.statement.specs.Statements.{CallTail, empty, coded, Plain, null, travel, letters, escape, assign, mark, movemk, drawmk, plain, call, erase, endpic, subhed, subend, act}
use Rattle.listing.specs.Lines.{quoted_byte, quoted, travel_name, letters_name, setting_name, pair_text, header_text, at_text, tail_text}
use Rattle.wording.specs.Laws.{AreBytes, Is16Bits, Spaceless, AtWordable, TailWordable, PlainWordable, WordsRead, LawfulRead, LawfulApart}
use Rattle.wording.specs.Numerals.{value_in, coordinate_in}
use Rattle.wording.specs.Quotes.{unquoted}
use Rattle.wording.specs.Texts.{given, word, rest, behind, entry}
use Rattle.wording.specs.Words.{words, headers, ended, second_in, pair_in, string_in, at_in, as_tail, tail_in, escape_in, heading_in, call_in, arguments_in, worded}
use Rattle.wording.proofs.Fronts.{word_append, rest_append}
use Rattle.wording.proofs.Lawfully.{wordable}
use Rattle.wording.proofs.Readings.{value_read, coordinate_read, decimal_spaceless, signed_spaceless, string_read}

pair_read : (x y : ℤ) → Is16Bits x → Is16Bits y → pair_in (pair_text x y) ≡ Some (x, y)
pair_read x y hx hy =
    let more = 32 ∷ signed_decimal y in
    let w = word_append (signed_decimal x) more (signed_spaceless x hx) refl in
    let r = rest_append (signed_decimal x) more (signed_spaceless x hx) refl in
    (λ i. given (coordinate_in (w i)) (λ z. second_in z (r i))) ∙ ap (λ o. given o (λ z. second_in z more)) (coordinate_read x hx) ∙ ap (λ o. given o (λ z. Some (x, z))) (coordinate_read y hy)

text_read : (t : List ℕ) → AreBytes t → string_in (32 ∷ quoted t) ≡ Some t
text_read t h = ap (λ o. given o (λ p. ended p.0 p.1)) (string_read t [] h)

at_read : (at : Option (ℤ × ℤ)) → AtWordable at → at_in (at_text at) ≡ Some at
at_read None h = refl
at_read (Some p) h = ap (λ o. given o (λ z. Some (Some z))) (pair_read p.0 p.1 h.0 h.1)

tail_read : (t : CallTail) → TailWordable t → tail_in (tail_text t) ≡ Some t
tail_read empty h = refl
tail_read (coded None None) h = refl
tail_read (coded None (Some p)) h = ap (λ o. given o (λ z. Some (coded None (Some z)))) (pair_read p.0 p.1 h.1.0 h.1.1)
tail_read (coded (Some n) at) h =
    ap (λ z. given (unquoted z) as_tail) (append_assoc (flat_map quoted_byte n) (34 ∷ []) (at_text at)) ∙ ap (λ o. given o as_tail) (string_read n (at_text at) h.0)
    ∙ ap (λ o. given o (λ z. Some (coded (Some n) z))) (at_read at h.1)

-- a tail begins with a space, or is empty
word_tail : (t : CallTail) → word (tail_text t) ≡ []
word_tail empty = refl
word_tail (coded None None) = refl
word_tail (coded None (Some p)) = refl
word_tail (coded (Some n) at) = refl

rest_tail : (t : CallTail) → rest (tail_text t) ≡ tail_text t
rest_tail empty = refl
rest_tail (coded None None) = refl
rest_tail (coded None (Some p)) = refl
rest_tail (coded (Some n) at) = refl

call_read : (n : List ℕ) (t : CallTail) → Spaceless n → TailWordable t → call_in (n ++ tail_text t) ≡ Some (act (call n t))
call_read n t s h =
    let w = word_append n (tail_text t) s (word_tail t) in
    let r = rest_append n (tail_text t) s (rest_tail t) in
    (λ i. given (tail_in (r i)) (λ z. Some (act (call (w i) z)))) ∙ ap (λ o. given o (λ z. Some (act (call n z)))) (tail_read t h)

header_read : (h : Header) → entry headers (header_text h) ≡ Some h
header_read header.Simple = refl
header_read header.Full = refl
header_read header.Both = refl

heading_read : (n : List ℕ) (h : Header) → Spaceless n → heading_in (n ++ (32 ∷ header_text h)) ≡ Some (subhed n h)
heading_read n h s =
    let w = word_append n (32 ∷ header_text h) s refl in
    let r = rest_append n (32 ∷ header_text h) s refl in
    (λ i. given (behind (codes " ") (r i)) (λ t. given (entry headers t) (λ z. Some (subhed (w i) z)))) ∙ ap (λ o. given o (λ z. Some (subhed n z))) (header_read h)

escape_read : (v : ℕ) (t : List ℕ) → v < 256 → AreBytes t → escape_in (decimal v ++ (32 ∷ quoted t)) ≡ Some (act (plain (escape v t)))
escape_read v t hv ht =
    let more = 32 ∷ quoted t in
    let s = decimal_spaceless v (omega arith) in
    let w = word_append (decimal v) more s refl in
    let r = rest_append (decimal v) more s refl in
    (λ i. given (value_in (w i)) (λ x. given (string_in (r i)) (λ z. Some (act (plain (escape x z))))))
    ∙ ap (λ o. given o (λ x. given (string_in more) (λ z. Some (act (plain (escape x z)))))) (value_read v hv)
    ∙ ap (λ o. given o (λ z. Some (act (plain (escape v z))))) (text_read t ht)

-- a name tells what follows it
travel_named : (t : Trace) (a : Aim) (cs : List ℕ) → worded (travel_name t a ++ (32 ∷ cs)) ≡ arguments_in (layout.Pair t a) (32 ∷ cs)
unfolding worded
travel_named trace.Blank aim.Absolute cs = refl
travel_named trace.Blank aim.Relative cs = refl
travel_named trace.Line aim.Absolute cs = refl
travel_named trace.Line aim.Relative cs = refl
travel_named trace.Dot aim.Absolute cs = refl
travel_named trace.Dot aim.Relative cs = refl

letters_named : (m : Manner) (cs : List ℕ) → worded (letters_name m ++ (32 ∷ cs)) ≡ arguments_in (layout.Text m) (32 ∷ cs)
unfolding worded
letters_named manner.Onward cs = refl
letters_named manner.Restoring cs = refl
letters_named manner.Wrapping cs = refl

setting_named : (k : Setting) (cs : List ℕ) → worded (setting_name k ++ (32 ∷ cs)) ≡ arguments_in (layout.Value k) (32 ∷ cs)
unfolding worded
setting_named setting.LineMode cs = refl
setting_named setting.Intensity cs = refl

plain_read : (p : Plain) → PlainWordable p → worded (words (act (plain p))) ≡ Some (act (plain p))
unfolding worded
plain_read null h = refl
plain_read (travel t a x y) h =
    travel_named t a (signed_decimal x ++ (32 ∷ signed_decimal y)) ∙ ap (λ o. given o (λ p. Some (act (plain (travel t a p.0 p.1))))) (pair_read x y h.0 h.1)
plain_read (letters m t) h = letters_named m (quoted t) ∙ ap (λ o. given o (λ z. Some (act (plain (letters m z))))) (text_read t h)
plain_read (escape v t) h = escape_read v t h.0 h.1
plain_read (assign k v) h = setting_named k (decimal v) ∙ ap (λ o. given o (λ z. Some (act (plain (assign k z))))) (value_read v h)
plain_read mark h = refl
plain_read movemk h = refl
plain_read drawmk h = refl

pub words_read : WordsRead
unfolding worded
words_read erase h = refl
words_read endpic h = refl
words_read (subhed n k) h = heading_read n k h
words_read subend h = refl
words_read (act (plain p)) h = plain_read p h
words_read (act (call n t)) h = call_read n t h.0 h.1

pub lawful_read : LawfulRead
lawful_read s l b = words_read s (wordable s l b)

pub lawful_apart : LawfulApart
lawful_apart s t ls bs lt bt e = same_Some s t (sym (lawful_read s ls bs) ∙ ap worded e ∙ lawful_read t lt bt)
