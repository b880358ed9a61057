-- What follows a code, where it reads as a statement, begins with the spelling of that statement's arguments.
use Rattle.std.proofs.Common.{◌≡◌, ℕ, ◌≤◌, ◌&&◌, leb, List, [], ◌∷◌, ◌++◌, length, Option, refl, ap, ◌∙◌, subst}
use Rattle.std.proofs.lemmas.Bool.{le-leb}
use Rattle.statement.specs.declared.layout.Trace.{Trace}
use Rattle.statement.specs.declared.layout.Aim.{Aim}
use Rattle.statement.specs.declared.layout.Manner.{Manner}
use Rattle.statement.specs.declared.layout.Setting.{Setting}
use Rattle.statement.specs.declared.layout.Bare.{Bare}
use Rattle.statement.specs.declared.layout.Bare.TheVariants as bare
use Rattle.statement.specs.declared.layout.Layout.{Layout}
use Rattle.statement.specs.declared.layout.Layout.TheVariants as layout
use Rattle.statement.specs.declared.types.Fault.{Fault}
use Rattle.statement.specs.declared.types.Fault.TheVariants as fault
use Rattle.statement.specs.Statements.{travel, letters, escape, assign, plain, Said, act, alone}
use Rattle.statement.specs.Reading.{Shape, more, refused, whole, Front, wanting, wrong, found, onto, string, coordinate, lawful, pair, is_text, texted, escaped, escaping, setting}
use Rattle.spelling.specs.Spelling.{code_of, spell_string, spell_arguments, first_of, unless, Lawful}
use Rattle.spelling.proofs.Fronts.{Matches, matches_same, matches_cons, by_first, pair_matches, string_found}
use Rattle.spelling.proofs.Codes.{layout_code}

pub more≢whole : (s : Said) → more ≡ whole s → ⊥
more≢whole s e = cc

pub refused≢whole : (f : Fault) (s : Said) → refused f ≡ whole s → ⊥
refused≢whole f s e = cc

-- the bytes after a code, where they read as a statement
pub record Argued (l : Layout) (xs : List ℕ) (s : Said) : Type 0 where
  pub code : layout_code l ≡ code_of s
  pub rest : List ℕ
  pub spelt : Matches xs (spell_arguments s ++ rest)
  pub faultless : Lawful s

pub argued_at : (l : Layout) (xs : List ℕ) (s s' : Said) → s ≡ s' → Argued l xs s → Argued l xs s'
argued_at l xs s s' e a = subst (Argued l xs) e a

pub record Onto {A : Type 0} (p : Front A) (k : A → List ℕ → Shape) (s : Said) : Type 0 where
  pub got : A
  pub after : List ℕ
  pub front : p ≡ found got after
  pub then : k got after ≡ whole s

pub onto_whole : {A : Type 0} (p : Front A) (k : A → List ℕ → Shape) (s : Said) → onto p k ≡ whole s → Onto p k s
onto_whole wanting k s e = absurd (cc)
onto_whole (wrong f) k s e = absurd (cc)
onto_whole (found a rest) k s e = record { got = a; after = rest; front = refl; then = e }

pub bare_argued : (b : Bare) (xs : List ℕ) → Argued (layout.Bare b) xs (alone b)
bare_argued bare.Null xs = record { code = refl; rest = xs; spelt = matches_same xs xs refl; faultless = refl }
bare_argued bare.Erase xs = record { code = refl; rest = xs; spelt = matches_same xs xs refl; faultless = refl }
bare_argued bare.Endpic xs = record { code = refl; rest = xs; spelt = matches_same xs xs refl; faultless = refl }
bare_argued bare.Subend xs = record { code = refl; rest = xs; spelt = matches_same xs xs refl; faultless = refl }
bare_argued bare.Mark xs = record { code = refl; rest = xs; spelt = matches_same xs xs refl; faultless = refl }
bare_argued bare.Movemk xs = record { code = refl; rest = xs; spelt = matches_same xs xs refl; faultless = refl }
bare_argued bare.Drawmk xs = record { code = refl; rest = xs; spelt = matches_same xs xs refl; faultless = refl }

pub pair_argued : (t : Trace) (a : Aim) (xs : List ℕ) (s : Said) → pair t a xs ≡ whole s → Argued (layout.Pair t a) xs s
pair_argued t a [] s e = absurd (cc)
pair_argued t a (b ∷ []) s e = absurd (cc)
pair_argued t a (b ∷ c ∷ []) s e = absurd (cc)
pair_argued t a (b ∷ c ∷ d ∷ []) s e = absurd (cc)
pair_argued t a (b ∷ c ∷ d ∷ f ∷ rest) s e =
    let x = coordinate b c in
    let y = coordinate d f in
    let p = by_first (lawful a x && lawful a y) (whole (act (plain (travel t a x y)))) (refused fault.WrongCoordinate) (whole s) (refused≢whole fault.WrongCoordinate s) e in
    let q = p.1 in
    let same : act (plain (travel t a x y)) ≡ s = cc in
    argued_at (layout.Pair t a) (b ∷ c ∷ d ∷ f ∷ rest) (act (plain (travel t a x y))) s same
    (record { code = refl; rest = rest; spelt = pair_matches b c d f rest; faultless = ap (λ z. unless z fault.WrongCoordinate) p.0 })

pub within : (n limit : ℕ) (f : Fault) (o : Option Fault) → n ≤ limit → first_of (unless (leb n limit) f) o ≡ o
within n limit f o h = ap (λ z. first_of (unless z f) o) (le-leb n limit h)

pub text_argued : (m : Manner) (xs : List ℕ) (s : Said) → onto (string 512 xs) (texted m) ≡ whole s → Argued (layout.Text m) xs s
text_argued m xs s e =
    let o = onto_whole (string 512 xs) (texted m) s e in
    let t = o.got in
    let p = by_first (is_text t) (whole (act (plain (letters m t)))) (refused fault.WrongCharacter) (whole s) (refused≢whole fault.WrongCharacter s) o.then in
    let q = p.1 in
    let same : act (plain (letters m t)) ≡ s = cc in
    let f = string_found 512 xs t o.after o.front in
    argued_at (layout.Text m) xs (act (plain (letters m t))) s same
    (record {
      code = refl;
      rest = o.after;
      spelt = f.0;
      faultless = within (length t) 512 fault.TooLong (unless (is_text t) fault.WrongCharacter) f.1 ∙ ap (λ z. unless z fault.WrongCharacter) p.0;
    })

pub escape_argued : (xs : List ℕ) (s : Said) → escaping xs ≡ whole s → Argued layout.Escape xs s
escape_argued [] s e = absurd (cc)
escape_argued (v ∷ xs) s e =
    let o = onto_whole (string 512 xs) (escaped v) s e in
    let t = o.got in
    let q = o.then in
    let same : act (plain (escape v t)) ≡ s = cc in
    let f = string_found 512 xs t o.after o.front in
    argued_at layout.Escape (v ∷ xs) (act (plain (escape v t))) s same
    (record {
      code = refl;
      rest = o.after;
      spelt = matches_cons v xs (spell_string t ++ o.after) f.0;
      faultless = ap (λ z. unless z fault.TooLong) (le-leb (length t) 512 f.1);
    })

pub value_argued : (k : Setting) (xs : List ℕ) (s : Said) → setting k xs ≡ whole s → Argued (layout.Value k) xs s
value_argued k [] s e = absurd (cc)
value_argued k (v ∷ xs) s e =
    let same : act (plain (assign k v)) ≡ s = cc in
    argued_at (layout.Value k) (v ∷ xs) (act (plain (assign k v))) s same
    (record { code = refl; rest = xs; spelt = matches_same (v ∷ xs) (v ∷ xs) refl; faultless = refl })
