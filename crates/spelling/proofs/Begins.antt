-- Bytes that read as a statement begin with its spelling, and the statement is lawful.
use Rattle.std.proofs.Common.{◌≡◌, ℕ, ◌≤◌, Bool, true, false, cond, ◌&&◌, eqb, ltb, List, [], ◌∷◌, ◌++◌, length, take, drop, Some, None, Option, sym, refl, ap, ◌∙◌, subst, inl, inr}
use Rattle.std.proofs.lemmas.List.{append_assoc, take-append-drop, length-take-le}
use Rattle.std.proofs.lemmas.Bool.{eqb-true, ltb-false}
use Rattle.std.proofs.lemmas.Option.{none-some}
use Rattle.statement.specs.declared.layout.Layout.{Layout}
use Rattle.statement.specs.declared.layout.Layout.TheVariants as layout
use Rattle.statement.specs.declared.types.Fault.TheVariants as fault
use Rattle.statement.specs.declared.types.Header.{Header}
use Rattle.statement.specs.declared.types.Header.TheVariants as header
use Rattle.statement.specs.declared.types.Standing.{Standing}
use Rattle.statement.specs.Statements.{CallTail, call, Said, subhed, act, alone, layout_of, allowed}
use Rattle.statement.specs.Reading.{more, refused, whole, onto, string, is_name, header_of, titled, headed, heading, lawful_tail, named_tail, tail_of, tailed, calling, arguments, admitted, reading}
use Rattle.spelling.specs.Spelling.{code_of, spell_string, spell_tail, header_byte, spell_arguments, spell, first_of, unless, tail_fits, Lawful}
use Rattle.spelling.proofs.Fronts.{Matches, matches_at, matches_cons, matches_before, matches_onto, by_first, by_second, string_found}
use Rattle.spelling.proofs.Tails.{pick, tail_found}
use Rattle.spelling.proofs.Codes.{code_of_layout}
use Rattle.spelling.proofs.Arguments.{more≢whole, refused≢whole, Argued, argued_at, onto_whole, within, bare_argued, pair_argued, text_argued, escape_argued, value_argued}

header_found : (h : ℕ) (d : Header) → header_of h ≡ Some d → h ≡ header_byte d
header_found h d e =
    elim (pick (eqb h 0x80) _ _ _ e) [
      | inl p ↦ let q = p.1 in let same : header.Simple ≡ d = cc in eqb-true h 0x80 p.0 ∙ ap header_byte same
      | inr p0 ↦
          elim (pick (eqb h 0x40) _ _ _ p0.1) [
            | inl p ↦ let q = p.1 in let same : header.Full ≡ d = cc in eqb-true h 0x40 p.0 ∙ ap header_byte same
            | inr p1 ↦
                elim (pick (eqb h 0xC0) _ _ _ p1.1) [
                  | inl p ↦ let q = p.1 in let same : header.Both ≡ d = cc in eqb-true h 0xC0 p.0 ∙ ap header_byte same
                  | inr p2 ↦ absurd (none-some d p2.1)
                ]
          ]
    ]

-- what follows the name of a definition
record Headed (n xs : List ℕ) (s : Said) : Type 0 where
  kind : Header
  rest : List ℕ
  bytes : xs ≡ 1 ∷ header_byte kind ∷ rest
  named : is_name n ≡ true
  same : subhed n kind ≡ s

titled_whole : (n : List ℕ) (h : ℕ) (rest : List ℕ) (s : Said) (o : Option Header) → header_of h ≡ o → titled n o ≡ whole s → Headed n (1 ∷ h ∷ rest) s
titled_whole n h rest s None k e = absurd (cc)
titled_whole n h rest s (Some d) k e =
    let p = by_first (is_name n) (whole (subhed n d)) (refused fault.WrongCharacter) (whole s) (refused≢whole fault.WrongCharacter s) e in
    let q = p.1 in
    record { kind = d; rest = rest; bytes = ap (λ z. 1 ∷ z ∷ rest) (header_found h d k); named = p.0; same = cc }

headed_whole : (n xs : List ℕ) (s : Said) → headed n xs ≡ whole s → Headed n (1 ∷ xs) s
headed_whole n [] s e = absurd (cc)
headed_whole n (h ∷ xs) s e = titled_whole n h xs s (header_of h) refl e

heading_whole : (n xs : List ℕ) (s : Said) → heading n xs ≡ whole s → Headed n xs s
heading_whole n [] s e = absurd (cc)
heading_whole n (b ∷ xs) s e =
    let p = by_first (eqb b 1) (headed n xs) (refused fault.WrongLayout) (whole s) (refused≢whole fault.WrongLayout s) e in
    subst (λ z. Headed n (z ∷ xs) s) (sym (eqb-true b 1 p.0)) (headed_whole n xs s p.1)

heading_argued : (xs : List ℕ) (s : Said) → onto (string 8 xs) heading ≡ whole s → Argued layout.Heading xs s
heading_argued xs s e =
    let o = onto_whole (string 8 xs) heading s e in
    let n = o.got in
    let f = string_found 8 xs n o.after o.front in
    let d = heading_whole n o.after s o.then in
    let k = header_byte d.kind in
    argued_at layout.Heading xs (subhed n d.kind) s d.same
    (record {
      code = refl;
      rest = d.rest;
      spelt =
          matches_at xs (spell_string n ++ o.after) ((spell_string n ++ (1 ∷ k ∷ [])) ++ d.rest)
          (ap (λ z. spell_string n ++ z) d.bytes ∙ sym (append_assoc (spell_string n) (1 ∷ k ∷ []) d.rest)) f.0;
      faultless = within (length n) 8 fault.TooLong (unless (is_name n) fault.WrongCharacter) f.1 ∙ ap (λ z. unless z fault.WrongCharacter) d.named;
    })

-- what follows the name of a call
record Called (n xs : List ℕ) (s : Said) : Type 0 where
  tail : CallTail
  rest : List ℕ
  bytes : Matches xs ((length (spell_tail tail) ∷ spell_tail tail) ++ rest)
  fits : tail_fits tail ≡ true
  inside : lawful_tail tail ≡ true
  named : (is_name n && named_tail tail) ≡ true
  same : act (call n tail) ≡ s

tailed_whole : (n : List ℕ) (t : ℕ) (xs : List ℕ) (s : Said) → t ≤ length xs → (o : Option CallTail) → tail_of (take t xs) ≡ o → tailed n o ≡ whole s → Called n (t ∷ xs) s
tailed_whole n t xs s h None k e = absurd (cc)
tailed_whole n t xs s h (Some c) k e =
    let p = by_first (lawful_tail c) (cond (is_name n && named_tail c) (whole (act (call n c))) (refused fault.WrongCharacter)) (refused fault.WrongCoordinate) (whole s) (refused≢whole fault.WrongCoordinate s) e in
    let q = by_first (is_name n && named_tail c) (whole (act (call n c))) (refused fault.WrongCharacter) (whole s) (refused≢whole fault.WrongCharacter s) p.1 in
    let r = q.1 in
    let f = tail_found (take t xs) c k in
    let size : t ≡ length (spell_tail c) = sym (length-take-le t xs h) ∙ f.0.0 in
    let joined : Matches xs (spell_tail c ++ drop t xs) = subst (λ z. Matches z (spell_tail c ++ drop t xs)) (take-append-drop t xs) (matches_before (take t xs) (spell_tail c) (drop t xs) f.0) in
    record {
      tail = c;
      rest = drop t xs;
      bytes = matches_at (t ∷ xs) (t ∷ (spell_tail c ++ drop t xs)) ((length (spell_tail c) ∷ spell_tail c) ++ drop t xs)
          (ap (λ z. z ∷ (spell_tail c ++ drop t xs)) size) (matches_cons t xs (spell_tail c ++ drop t xs) joined);
      fits = f.1;
      inside = p.0;
      named = q.0;
      same = cc;
    }

calling_whole : (n xs : List ℕ) (s : Said) → calling n xs ≡ whole s → Called n xs s
calling_whole n [] s e = absurd (cc)
calling_whole n (t ∷ xs) s e =
    let rest = cond (ltb (length xs) t) more (tailed n (tail_of (take t xs))) in
    let p = by_second (ltb 14 t) (refused fault.WrongLayout) rest (whole s) (refused≢whole fault.WrongLayout s) e in
    let q = by_second (ltb (length xs) t) more (tailed n (tail_of (take t xs))) (whole s) (more≢whole s) p.1 in
    tailed_whole n t xs s (ltb-false (length xs) t q.0) (tail_of (take t xs)) refl q.1

calling_argued : (xs : List ℕ) (s : Said) → onto (string 8 xs) calling ≡ whole s → Argued layout.Calling xs s
calling_argued xs s e =
    let o = onto_whole (string 8 xs) calling s e in
    let n = o.got in
    let f = string_found 8 xs n o.after o.front in
    let d = calling_whole n o.after s o.then in
    let t = d.tail in
    let ts = length (spell_tail t) ∷ spell_tail t in
    let named = unless (is_name n && named_tail t) fault.WrongCharacter in
    argued_at layout.Calling xs (act (call n t)) s d.same
    (record {
      code = refl;
      rest = d.rest;
      spelt =
          matches_at xs (spell_string n ++ (ts ++ d.rest)) ((spell_string n ++ ts) ++ d.rest) (sym (append_assoc (spell_string n) ts d.rest))
          (matches_onto xs (spell_string n) o.after (ts ++ d.rest) f.0 d.bytes);
      faultless =
          within (length n) 8 fault.TooLong (first_of (unless (tail_fits t) fault.WrongLayout) (first_of (unless (lawful_tail t) fault.WrongCoordinate) named)) f.1
          ∙ ap (λ z. first_of (unless z fault.WrongLayout) (first_of (unless (lawful_tail t) fault.WrongCoordinate) named)) d.fits
          ∙ ap (λ z. first_of (unless z fault.WrongCoordinate) named) d.inside ∙ ap (λ z. unless z fault.WrongCharacter) d.named;
    })

argued : (l : Layout) (xs : List ℕ) (s : Said) → arguments l xs ≡ whole s → Argued l xs s
argued (layout.Bare b) xs s e = let same : alone b ≡ s = cc in argued_at (layout.Bare b) xs (alone b) s same (bare_argued b xs)
argued (layout.Pair t a) xs s e = pair_argued t a xs s e
argued (layout.Text m) xs s e = text_argued m xs s e
argued layout.Escape xs s e = escape_argued xs s e
argued (layout.Value k) xs s e = value_argued k xs s e
argued layout.Heading xs s e = heading_argued xs s e
argued layout.Calling xs s e = calling_argued xs s e

-- bytes that begin with a lawful statement's spelling
pub record Begins (st : Standing) (bs : List ℕ) (s : Said) : Type 0 where
  pub rest : List ℕ
  pub spelt : Matches bs (spell s ++ rest)
  pub faultless : Lawful s
  pub may : allowed st (code_of s) ≡ true

admitted_begins : (st : Standing) (c : ℕ) (xs : List ℕ) (s : Said) (ok : Bool) (o : Option Layout) → allowed st c ≡ ok → layout_of c ≡ o → admitted ok o xs ≡ whole s → Begins st (c ∷ xs) s
admitted_begins st c xs s ok None a l e = absurd (cc)
admitted_begins st c xs s true (Some k) a l e =
    let g = argued k xs s e in
    let same : c ≡ code_of s = sym (code_of_layout c k l) ∙ g.code in
    record {
      rest = g.rest;
      spelt = matches_at (c ∷ xs) (c ∷ (spell_arguments s ++ g.rest)) (spell s ++ g.rest) (ap (λ z. z ∷ (spell_arguments s ++ g.rest)) same)
          (matches_cons c xs (spell_arguments s ++ g.rest) g.spelt);
      faultless = g.faultless;
      may = ap (allowed st) (sym same) ∙ a;
    }
admitted_begins st c xs s false (Some k) a l e = absurd (cc)

pub begins : (st : Standing) (bs : List ℕ) (s : Said) → reading st bs ≡ whole s → Begins st bs s
begins st [] s e = absurd (cc)
begins st (c ∷ xs) s e = admitted_begins st c xs s (allowed st c) (layout_of c) refl refl e
