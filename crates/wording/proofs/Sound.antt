-- A line that reads as a statement is the words of that statement.
use Rattle.std.proofs.Common.{◌≡◌, ℕ, List, [], ◌∷◌, ◌++◌, ℤ, Some, None, codes, decimal, Option, sym, refl, ap, ◌∙◌}
use Rattle.std.proofs.lemmas.Option.{same_Some}
use Rattle.std.specs.List.{flat_map}
use Rattle.std.specs.Fmt.{signed_decimal}
use Rattle.std.proofs.lemmas.List.{append_assoc}
use Rattle.statement.specs.declared.layout.Bare.{Bare}
use Rattle.statement.specs.declared.layout.Bare.TheVariants as bare
use Rattle.statement.specs.declared.layout.Layout.{Layout}
use Rattle.statement.specs.declared.layout.Layout.TheVariants as layout
use Rattle.statement.specs.declared.types.Header.{Header}
use Rattle.statement.specs.Statements.{CallTail, empty, coded, travel, letters, escape, assign, plain, call, Said, subhed, act, alone}
use Rattle.listing.specs.Lines.{quoted_byte, quoted, travel_name, letters_name, setting_name, name_of, argument_text, pair_text, header_text, at_text, tail_text}
use Rattle.wording.specs.Numerals.{value_in, coordinate_in}
use Rattle.wording.specs.Quotes.{unquoted}
use Rattle.wording.specs.Texts.{given, word, rest, behind, entry}
use Rattle.wording.specs.Words.{words, names, headers, ended, second_in, first_in, pair_in, string_in, point_in, at_in, as_tail, bare_tail, coded_tail, tail_in, escape_in, heading_in, call_in, arguments_in, worded}
use Rattle.wording.proofs.Decimal.{value_written, coordinate_written}
use Rattle.wording.proofs.Fronts.{word_rest, front_behind}
use Rattle.wording.proofs.Quoting.{writing, string_written}
use Rattle.wording.proofs.Tables.{come, entry_named}

-- the name of the code that has such arguments
abbrev pub layout_name : Layout → List ℕ
layout_name (layout.Bare b) = name_of (alone b)
layout_name (layout.Pair t a) = travel_name t a
layout_name (layout.Text m) = letters_name m
layout_name layout.Escape = codes "ESCDEV"
layout_name (layout.Value s) = setting_name s
layout_name layout.Heading = codes "SUBHED"
layout_name layout.Calling = codes "INSTS"

pub name_written : (n : List ℕ) (l : Layout) → entry names n ≡ Some l → layout_name l ≡ n
name_written n l e =
    entry_named layout_name names
    (refl, (refl, (refl, (refl, (refl, (refl, (refl, (refl, (refl, (refl, (refl, (refl, (refl, (refl, (refl, (refl, (refl, (refl, (refl, (refl, (refl, tt)))))))))))))))))))))
    n l e

header_written : (n : List ℕ) (h : Header) → entry headers n ≡ Some h → header_text h ≡ n
header_written n h e = entry_named header_text headers (refl, (refl, (refl, tt))) n h e

ended_is : {A : Type 0} (a b : A) (cs : List ℕ) → ended a cs ≡ Some b → (a ≡ b) × ([] ≡ cs)
ended_is a b [] e = (same_Some a b e, refl)
ended_is a b (c ∷ cs) e = absurd (cc)

-- a word and what follows it
split_written : (cs w r : List ℕ) → w ≡ word cs → r ≡ rest cs → w ++ r ≡ cs
split_written cs w r p q = (λ i. p i ++ q i) ∙ word_rest cs

second_written : (x : ℤ) (cs : List ℕ) (p : ℤ × ℤ) → second_in x cs ≡ Some p → (32 ∷ signed_decimal p.1 ≡ cs) × (x ≡ p.0)
second_written x cs p e =
    let t = come (behind (codes " ") cs) (λ t. given (coordinate_in t) (λ y. Some (x, y))) p e in
    let y = come (coordinate_in t.0) (λ y. Some (x, y)) p t.2 in
    let q : ◌≡◌ {A = ℤ × ℤ} (x, y.0) p = same_Some (x, y.0) p y.2 in
    (ap (λ z. 32 ∷ signed_decimal z.1) (sym q) ∙ ap (λ z. 32 ∷ z) (coordinate_written t.0 y.0 y.1) ∙ front_behind (codes " ") cs t.0 t.1, ap (λ z. z.0) q)

pair_written : (cs : List ℕ) (p : ℤ × ℤ) → pair_in cs ≡ Some p → pair_text p.0 p.1 ≡ cs
pair_written cs p e =
    let r = come (behind (codes " ") cs) first_in p e in
    let x = come (coordinate_in (word r.0)) (λ x. second_in x (rest r.0)) p r.2 in
    let s = second_written x.0 (rest r.0) p x.2 in
    ap (λ z. 32 ∷ z) (split_written r.0 (signed_decimal p.0) (32 ∷ signed_decimal p.1) (ap signed_decimal (sym s.1) ∙ coordinate_written (word r.0) x.0 x.1) s.0) ∙ front_behind (codes " ") cs r.0 r.1

text_written : (cs t : List ℕ) → string_in cs ≡ Some t → 32 ∷ quoted t ≡ cs
text_written cs t e =
    let q = come (behind (32 ∷ 34 ∷ []) cs) (λ q. given (unquoted q) (λ p. ended p.0 p.1)) t e in
    let p = come (unquoted q.0) (λ p. ended p.0 p.1) t q.2 in
    let m = ended_is p.0.0 t p.0.1 p.2 in
    (λ i. 32 ∷ 34 ∷ writing (sym m.0 i) (m.1 i)) ∙ ap (λ z. 32 ∷ 34 ∷ z) (string_written q.0 p.0 p.1) ∙ front_behind (32 ∷ 34 ∷ []) cs q.0 q.1

point_written : (cs : List ℕ) (p : ℤ × ℤ) → point_in cs ≡ Some p → at_text (Some p) ≡ cs
point_written cs p e =
    let r = come (behind (codes " AT") cs) pair_in p e in ap (λ z. codes " AT" ++ z) (pair_written r.0 p r.2) ∙ front_behind (codes " AT") cs r.0 r.1

at_written : (cs : List ℕ) (at : Option (ℤ × ℤ)) → at_in cs ≡ Some at → at_text at ≡ cs
at_written [] at e = ap at_text (sym (same_Some None at e))
at_written (c ∷ cs) at e = let p = come (point_in (c ∷ cs)) (λ p. Some (Some p)) at e in ap at_text (sym (same_Some (Some p.0) at p.2)) ∙ point_written (c ∷ cs) p.0 p.1

as_written : (cs q : List ℕ) (t : CallTail) → behind (codes " AS " ++ (34 ∷ [])) cs ≡ Some q → given (unquoted q) as_tail ≡ Some t → tail_text t ≡ cs
as_written cs q t f e =
    let p = come (unquoted q) as_tail t e in
    let n = p.0.0 in
    let at = come (at_in p.0.1) (λ at. Some (coded (Some n) at)) t p.2 in
    ap tail_text (sym (same_Some (coded (Some n) at.0) t at.2))
    ∙ ap (λ z. codes " AS " ++ (34 ∷ z)) (append_assoc (flat_map quoted_byte n) (34 ∷ []) (at_text at.0) ∙ ap (writing n) (at_written p.0.1 at.0 at.1) ∙ string_written q p.0 p.1)
    ∙ front_behind (codes " AS " ++ (34 ∷ [])) cs q f

bare_written : (cs : List ℕ) (t : CallTail) (o : Option (List ℕ)) → behind (codes " CODE") cs ≡ o → bare_tail cs o ≡ Some t → tail_text t ≡ cs
bare_written cs t (Some more) f e =
    let m = ended_is (coded None None) t more e in ap tail_text (sym m.0) ∙ ap (λ z. codes " CODE" ++ z) m.1 ∙ front_behind (codes " CODE") cs more f
bare_written cs t None f e =
    let p = come (point_in cs) (λ p. Some (coded None (Some p))) t e in ap tail_text (sym (same_Some (coded None (Some p.0)) t p.2)) ∙ point_written cs p.0 p.1

tail_written : (cs : List ℕ) (t : CallTail) → tail_in cs ≡ Some t → tail_text t ≡ cs
tail_written [] t e = ap tail_text (sym (same_Some empty t e))
tail_written (c ∷ cs) t e = go (behind (codes " AS " ++ (34 ∷ [])) (c ∷ cs)) refl e
  where
    go : (o : Option (List ℕ)) → behind (codes " AS " ++ (34 ∷ [])) (c ∷ cs) ≡ o → coded_tail (c ∷ cs) o ≡ Some t → tail_text t ≡ c ∷ cs
    go (Some q) f h = as_written (c ∷ cs) q t f h
    go None f h = bare_written (c ∷ cs) t (behind (codes " CODE") (c ∷ cs)) refl h

bare_words : (b : Bare) → words (alone b) ≡ name_of (alone b) ++ []
bare_words bare.Null = refl
bare_words bare.Erase = refl
bare_words bare.Endpic = refl
bare_words bare.Subend = refl
bare_words bare.Mark = refl
bare_words bare.Movemk = refl
bare_words bare.Drawmk = refl

-- each kind of statement
module _ (s : Said) where
  -- a statement that was made, with its words
  made : (t : Said) (name cs text : List ℕ) → Some t ≡ Some s → words t ≡ name ++ text → text ≡ cs → words s ≡ name ++ cs
  made t name cs text e w f = ap words (sym (same_Some t s e)) ∙ w ∙ ap (λ z. name ++ z) f

  escape_written : (cs : List ℕ) → given (behind (codes " ") cs) escape_in ≡ Some s → words s ≡ codes "ESCDEV" ++ cs
  escape_written cs e =
      let r = come (behind (codes " ") cs) escape_in s e in
      let v = come (value_in (word r.0)) (λ v. given (string_in (rest r.0)) (λ t. Some (act (plain (escape v t))))) s r.2 in
      let t = come (string_in (rest r.0)) (λ t. Some (act (plain (escape v.0 t)))) s v.2 in
      made (act (plain (escape v.0 t.0))) (codes "ESCDEV") cs (argument_text (act (plain (escape v.0 t.0)))) t.2 refl
      (ap (λ z. 32 ∷ z) (split_written r.0 (decimal v.0) (32 ∷ quoted t.0) (value_written (word r.0) v.0 v.1) (text_written (rest r.0) t.0 t.1))
      ∙ front_behind (codes " ") cs r.0 r.1)

  heading_written : (cs : List ℕ) → given (behind (codes " ") cs) heading_in ≡ Some s → words s ≡ codes "SUBHED" ++ cs
  heading_written cs e =
      let r = come (behind (codes " ") cs) heading_in s e in
      let n = word r.0 in
      let t = come (behind (codes " ") (rest r.0)) (λ t. given (entry headers t) (λ h. Some (subhed n h))) s r.2 in
      let h = come (entry headers t.0) (λ h. Some (subhed n h)) s t.2 in
      made (subhed n h.0) (codes "SUBHED") cs (argument_text (subhed n h.0)) h.2 refl
      (ap (λ z. 32 ∷ z) (split_written r.0 n (32 ∷ header_text h.0) refl (ap (λ z. 32 ∷ z) (header_written t.0 h.0 h.1) ∙ front_behind (codes " ") (rest r.0) t.0 t.1))
      ∙ front_behind (codes " ") cs r.0 r.1)

  call_written : (cs : List ℕ) → given (behind (codes " ") cs) call_in ≡ Some s → words s ≡ codes "INSTS" ++ cs
  call_written cs e =
      let r = come (behind (codes " ") cs) call_in s e in
      let n = word r.0 in
      let t = come (tail_in (rest r.0)) (λ t. Some (act (call n t))) s r.2 in
      made (act (call n t.0)) (codes "INSTS") cs (argument_text (act (call n t.0))) t.2 refl
      (ap (λ z. 32 ∷ z) (split_written r.0 n (tail_text t.0) refl (tail_written (rest r.0) t.0 t.1)) ∙ front_behind (codes " ") cs r.0 r.1)

  arguments_written : (l : Layout) (cs : List ℕ) → arguments_in l cs ≡ Some s → words s ≡ layout_name l ++ cs
  arguments_written (layout.Bare b) cs e = let m = ended_is (alone b) s cs e in made (alone b) (name_of (alone b)) cs [] (ap Some m.0) (bare_words b) m.1
  arguments_written (layout.Pair t a) cs e =
      let p = come (pair_in cs) (λ p. Some (act (plain (travel t a p.0 p.1)))) s e in
      made (act (plain (travel t a p.0.0 p.0.1))) (travel_name t a) cs (pair_text p.0.0 p.0.1) p.2 refl (pair_written cs p.0 p.1)
  arguments_written (layout.Text m) cs e =
      let t = come (string_in cs) (λ t. Some (act (plain (letters m t)))) s e in made (act (plain (letters m t.0))) (letters_name m) cs (32 ∷ quoted t.0) t.2 refl (text_written cs t.0 t.1)
  arguments_written layout.Escape cs e = escape_written cs e
  arguments_written (layout.Value k) cs e =
      let r = come (behind (codes " ") cs) (λ t. given (value_in t) (λ v. Some (act (plain (assign k v))))) s e in
      let v = come (value_in r.0) (λ v. Some (act (plain (assign k v)))) s r.2 in
      made (act (plain (assign k v.0))) (setting_name k) cs (32 ∷ decimal v.0) v.2 refl (ap (λ z. 32 ∷ z) (value_written r.0 v.0 v.1) ∙ front_behind (codes " ") cs r.0 r.1)
  arguments_written layout.Heading cs e = heading_written cs e
  arguments_written layout.Calling cs e = call_written cs e

pub words_only : (line : List ℕ) (s : Said) → worded line ≡ Some s → words s ≡ line
unfolding worded
words_only line s e =
    let l = come (entry names (word line)) (λ l. arguments_in l (rest line)) s e in
    arguments_written s l.0 (rest line) l.2 ∙ split_written line (layout_name l.0) (rest line) (name_written (word line) l.0 l.1) refl
