-- A statement's spelling reads as that statement, and nothing else does.
use Rattle.std.proofs.Common.{◌≡◌, ℕ, ◌<◌, ◌≤◌, Bool, true, false, cond, ◌&&◌, ltb, leb, List, [], ◌∷◌, ◌++◌, length, take, drop, ℤ, Some, None, Option, sym, refl, ap, ◌∙◌, arith, length-append, length-take}
use Rattle.std.proofs.lemmas.List.{append-nil, take-append-drop, take_all, take_at}
use Rattle.std.proofs.lemmas.Bool.{leb-true, le-ltb, and_parts}
use Rattle.statement.specs.declared.layout.Bare.TheVariants as bare
use Rattle.statement.specs.declared.layout.Layout.{Layout}
use Rattle.statement.specs.declared.layout.Layout.TheVariants as layout
use Rattle.statement.specs.declared.layout.Trace.{Trace}
use Rattle.statement.specs.declared.layout.Aim.{Aim}
use Rattle.statement.specs.declared.types.Fault.{Fault}
use Rattle.statement.specs.declared.types.Fault.TheVariants as fault
use Rattle.statement.specs.declared.types.Header.{Header}
use Rattle.statement.specs.declared.types.Header.TheVariants as header
use Rattle.statement.specs.declared.types.Standing.{Standing}
use Rattle.statement.specs.Statements.{CallTail, Plain, null, travel, letters, escape, assign, mark, movemk, drawmk, plain, call, Said, erase, endpic, subhed, subend, act, layout_of, allowed}
use Rattle.statement.specs.Reading.{Shape, more, refused, whole, onto, string, lawful, travelled, is_text, texted, escaped, is_name, header_of, titled, heading, lawful_tail, named_tail, tail_of, tailed, calling, arguments, admitted, reading}
use Rattle.spelling.specs.Spelling.{code_of, spell_string, spell_tail, spell_plain, header_byte, spell_arguments, spell, first_of, unless, tail_fits, Lawful}
use Rattle.spelling.specs.Laws.{Spelt, SpeltOnce}
use Rattle.spelling.proofs.Settles.{stays_whole, stays_refused}
use Rattle.spelling.proofs.Fronts.{Bytes, string_spelt}
use Rattle.spelling.proofs.Tails.{coordinate_spelt, tail_spelt, tail_short}
use Rattle.spelling.proofs.Codes.{layout_code, layout_of_code}
use Rattle.spelling.proofs.Begins.{begins}

-- no fault: neither of two
pub neither : (b : Bool) (f : Fault) (o : Option Fault) → first_of (unless b f) o ≡ None → (b ≡ true) × (o ≡ None)
neither true f o e = (refl, e)
neither false f o e = cc

pub not_one : (b : Bool) (f : Fault) → unless b f ≡ None → b ≡ true
not_one true f e = refl
not_one false f e = cc

-- what follows a statement's code
abbrev layout_for : Said → Layout
layout_for erase = layout.Bare bare.Erase
layout_for endpic = layout.Bare bare.Endpic
layout_for (subhed n h) = layout.Heading
layout_for subend = layout.Bare bare.Subend
layout_for (act (call n t)) = layout.Calling
layout_for (act (plain null)) = layout.Bare bare.Null
layout_for (act (plain (travel t a x y))) = layout.Pair t a
layout_for (act (plain (letters m t))) = layout.Text m
layout_for (act (plain (escape v t))) = layout.Escape
layout_for (act (plain (assign s v))) = layout.Value s
layout_for (act (plain mark)) = layout.Bare bare.Mark
layout_for (act (plain movemk)) = layout.Bare bare.Movemk
layout_for (act (plain drawmk)) = layout.Bare bare.Drawmk

-- the arguments of a statement, spelt, read as that statement
abbrev Argues : Said → Type 0
Argues s = (layout_code (layout_for s) ≡ code_of s) × (arguments (layout_for s) (spell_arguments s) ≡ whole s)

travel_argues : (t : Trace) (a : Aim) (x y : ℤ) → (lawful a x && lawful a y) ≡ true → arguments (layout.Pair t a) (spell_plain (travel t a x y)) ≡ whole (act (plain (travel t a x y)))
travel_argues t a x y e =
    let p = and_parts (lawful a x) (lawful a y) e in
    (λ i. travelled t a (coordinate_spelt a x p.0 i) (coordinate_spelt a y p.1 i))
    ∙ ap (λ b. cond b (whole (act (plain (travel t a x y)))) (refused fault.WrongCoordinate)) e

-- a string at the end of a statement
string_last : (limit : ℕ) (t : List ℕ) (k : List ℕ → List ℕ → Shape) → leb (length t) limit ≡ true → onto (string limit (spell_string t)) k ≡ k t []
string_last limit t k e =
    ap (λ z. onto (string limit z) k) (sym (append-nil (spell_string t))) ∙ ap (λ z. onto z k) (string_spelt limit t [] (leb-true (length t) limit e))

plain_argues : (p : Plain) → Lawful (act (plain p)) → Argues (act (plain p))
plain_argues null l = (refl, refl)
plain_argues (travel t a x y) l = (refl, travel_argues t a x y (not_one (lawful a x && lawful a y) fault.WrongCoordinate l))
plain_argues (letters m t) l =
    let p = neither (leb (length t) 512) fault.TooLong (unless (is_text t) fault.WrongCharacter) l in (
      refl,
      string_last 512 t (texted m) p.0
          ∙ ap (λ b. cond b (whole (act (plain (letters m t)))) (refused fault.WrongCharacter)) (not_one (is_text t) fault.WrongCharacter p.1),
    )
plain_argues (escape v t) l = (refl, string_last 512 t (escaped v) (not_one (leb (length t) 512) fault.TooLong l))
plain_argues (assign s v) l = (refl, refl)
plain_argues mark l = (refl, refl)
plain_argues movemk l = (refl, refl)
plain_argues drawmk l = (refl, refl)

header_spelt : (h : Header) → header_of (header_byte h) ≡ Some h
header_spelt header.Simple = refl
header_spelt header.Full = refl
header_spelt header.Both = refl

heading_argues : (n : List ℕ) (h : Header) → Lawful (subhed n h) → Argues (subhed n h)
heading_argues n h l =
    let p = neither (leb (length n) 8) fault.TooLong (unless (is_name n) fault.WrongCharacter) l in (
      refl,
      ap (λ z. onto z heading) (string_spelt 8 n (1 ∷ header_byte h ∷ []) (leb-true (length n) 8 p.0))
          ∙ ap (titled n) (header_spelt h) ∙ ap (λ b. cond b (whole (subhed n h)) (refused fault.WrongCharacter)) (not_one (is_name n) fault.WrongCharacter p.1),
    )

call_argues : (n : List ℕ) (t : CallTail) → Lawful (act (call n t)) → Argues (act (call n t))
call_argues n t l =
    let named = unless (is_name n && named_tail t) fault.WrongCharacter in
    let p = neither (leb (length n) 8) fault.TooLong (first_of (unless (tail_fits t) fault.WrongLayout) (first_of (unless (lawful_tail t) fault.WrongCoordinate) named)) l in
    let q = neither (tail_fits t) fault.WrongLayout (first_of (unless (lawful_tail t) fault.WrongCoordinate) named) p.1 in
    let r = neither (lawful_tail t) fault.WrongCoordinate named q.1 in
    let ts = spell_tail t in
    let size = length ts in
    let small : ltb 14 size ≡ false = le-ltb 14 size (tail_short t q.0) in
    let enough : ltb size size ≡ false = le-ltb size size (omega arith) in
    let all : take size ts ≡ ts = take_all size ts (omega arith) in (
      refl,
      ap (λ z. onto z calling) (string_spelt 8 n (size ∷ ts) (leb-true (length n) 8 p.0))
          ∙ ap (λ b. cond b (refused fault.WrongLayout) (cond (ltb size size) more (tailed n (tail_of (take size ts))))) small
          ∙ ap (λ b. cond b more (tailed n (tail_of (take size ts)))) enough ∙ ap (λ z. tailed n (tail_of z)) all ∙ ap (tailed n) (tail_spelt t q.0 r.0)
          ∙ ap (λ b. cond b (cond (is_name n && named_tail t) (whole (act (call n t))) (refused fault.WrongCharacter)) (refused fault.WrongCoordinate)) r.0
          ∙ ap (λ b. cond b (whole (act (call n t))) (refused fault.WrongCharacter)) (not_one (is_name n && named_tail t) fault.WrongCharacter r.1),
    )

argues : (s : Said) → Lawful s → Argues s
argues erase l = (refl, refl)
argues endpic l = (refl, refl)
argues (subhed n h) l = heading_argues n h l
argues subend l = (refl, refl)
argues (act (plain p)) l = plain_argues p l
argues (act (call n t)) l = call_argues n t l

-- a lawful statement reads from its spelling where it is allowed
pub spelt_whole : (st : Standing) (s : Said) → Lawful s → allowed st (code_of s) ≡ true → reading st (spell s) ≡ whole s
spelt_whole st s l a =
    let g = argues s l in
    let known : layout_of (code_of s) ≡ Some (layout_for s) = ap layout_of (sym g.0) ∙ layout_of_code (layout_for s) in
    ap (λ b. admitted b (layout_of (code_of s)) (spell_arguments s)) a ∙ ap (λ o. admitted true o (spell_arguments s)) known ∙ g.1

-- one that reads as whole is as long as its spelling at least
pub whole_long : (st : Standing) (bs : List ℕ) (s : Said) → reading st bs ≡ whole s → length (spell s) ≤ length bs
whole_long st bs s e = let g = begins st bs s e in omega (arith, g.spelt.0, length-append (spell s) g.rest)

-- a front of what is whole wants more, or is already refused or whole in the same way
module _ (st : Standing) (s : Said) (l : Lawful s) (a : allowed st (code_of s) ≡ true) where
  front_more : (k : ℕ) → k < length (spell s) → (x : Shape) → reading st (take k (spell s)) ≡ x → x ≡ more
  front_more k h more e = refl
  front_more k h (refused f) e =
      let r : reading st (take k (spell s) ++ drop k (spell s)) ≡ refused f = stays_refused st (take k (spell s)) (drop k (spell s)) f e in
      let z = sym r ∙ ap (reading st) (take-append-drop k (spell s)) ∙ spelt_whole st s l a in absurd (cc)
  front_more k h (whole s') e =
      let r : reading st (take k (spell s) ++ drop k (spell s)) ≡ whole s' = stays_whole st (take k (spell s)) (drop k (spell s)) s' e in
      let w : whole s' ≡ whole s = sym r ∙ ap (reading st) (take-append-drop k (spell s)) ∙ spelt_whole st s l a in
      let same : s' ≡ s = cc in
      let long : length (spell s') ≤ length (take k (spell s)) = whole_long st (take k (spell s)) s' e in
      let size : length (spell s') ≡ length (spell s) = ap (λ z. length (spell z)) same in
      absurd (omega (arith, length-take k (spell s)))

pub spelt : Spelt
spelt st s l a =
    record { before = λ k h. let e = front_more st s l a k h (reading st (take k (spell s))) refl in e; last = spelt_whole st s l a }

-- bytes that read as a statement are its spelling and whatever comes after
pub begins_spelt : (st : Standing) (bs : List ℕ) (s : Said) → Bytes bs → (e : reading st bs ≡ whole s) → bs ≡ spell s ++ (begins st bs s e).rest
begins_spelt st bs s h e = (begins st bs s e).spelt.1 h

pub spelt_once : SpeltOnce
spelt_once st bs s h r =
    let g = begins st bs s r.last in
    let e : bs ≡ spell s ++ g.rest = g.spelt.1 h in
    (e ∙ none_left g.rest e ∙ append-nil (spell s), g.faultless, g.may)
  where
    none_left : (rest : List ℕ) → bs ≡ spell s ++ rest → spell s ++ rest ≡ spell s ++ []
    none_left [] e = refl
    none_left (b ∷ rest) e =
        let g = begins st bs s r.last in
        let size = length-append (spell s) (b ∷ rest) in
        let all = ap length e in
        let early : reading st (take (length (spell s)) bs) ≡ more = r.before (length (spell s)) (omega arith) in
        let front : take (length (spell s)) bs ≡ spell s = ap (take (length (spell s))) e ∙ take_at (spell s) (b ∷ rest) (length (spell s)) refl in
        let z = sym early ∙ ap (reading st) front ∙ spelt_whole st s g.faultless g.may in absurd (cc)
