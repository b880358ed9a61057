-- The listing of what was composed says what the description says.
use Rattle.std.proofs.Common.{◌≡◌, ℕ, ◌+◌, ◌%◌, ◌^◌, ◌<◌, ◌≤◌, Bool, true, false, cond, ◌&&◌, ◌||◌, eqb, List, [], ◌∷◌, ◌++◌, map, length, Some, None, codes, decimal, Option, sym, refl, ap, ◌∙◌, subst, append_assoc, arith, length-append}
use Rattle.std.proofs.lemmas.Fmt.{decimal_by_steps}
use Rattle.std.proofs.lemmas.Bool.{ne_eqb, le-leb}
use Rattle.statement.specs.declared.types.Standing.{Standing}
use Rattle.statement.specs.declared.types.Standing.TheVariants.{Outside, Picture, Definition}
use Rattle.statement.specs.Statements.{Said, erase, endpic, subhed, subend, act, onwards}
use Rattle.spelling.specs.Spelling.{spell}
use Rattle.spelling.specs.Laws.{spell_all, placed}
use Rattle.spelling.specs.Walking.{Told}
use Rattle.listing.specs.Lines.{indent, line_of, lines}
use Rattle.wording.specs.Words.{words, worded}
use Rattle.wording.specs.Laws.{WordsOnly}
use Rattle.history.specs.Tales.{State, after}
use Rattle.composing.specs.Lines.{on_first, lines_of, is_fill, bare, is_silent, Line, silent, unreadable, saying, saying_of, heard}
use Rattle.composing.specs.Composed.{answer_to, Composed, stopped, unfinished, preceded, answered, heeded, composing}
use Rattle.composing.specs.Laws.{unless_silent, spoken, wordings}
use Rattle.composing.proofs.Told.{Takes}

-- bytes without the end of a line, and bytes that are all fill
abbrev Endless : List ℕ → Type 0
Endless [] = Unit {0}
Endless (b ∷ bs) = (eqb b 10 ≡ false) × Endless bs

abbrev Filled : List ℕ → Type 0
Filled [] = Unit {0}
Filled (b ∷ bs) = (is_fill b ≡ true) × Filled bs

abbrev AllEndless : List (List ℕ) → Type 0
AllEndless [] = Unit {0}
AllEndless (l ∷ ls) = Endless l × AllEndless ls

endless_append : (xs ys : List ℕ) → Endless xs → Endless ys → Endless (xs ++ ys)
endless_append [] ys p q = q
endless_append (x ∷ xs) ys p q = (p.0, endless_append xs ys p.1 q)

filled_append : (xs ys : List ℕ) → Filled xs → Filled ys → Filled (xs ++ ys)
filled_append [] ys p q = q
filled_append (x ∷ xs) ys p q = (p.0, filled_append xs ys p.1 q)

first_endless : (b : ℕ) (ls : List (List ℕ)) → eqb b 10 ≡ false → AllEndless ls → AllEndless (on_first b ls)
first_endless b [] e p = ((e, tt), tt)
first_endless b (l ∷ ls) e p = ((e, p.0), p.1)

by_end : (b : ℕ) (bs : List ℕ) (t : Bool) → eqb b 10 ≡ t → AllEndless (lines_of bs) → AllEndless (cond t ([] ∷ lines_of bs) (on_first b (lines_of bs)))
by_end b bs true e p = (tt, p)
by_end b bs false e p = first_endless b (lines_of bs) e p

pub lines_endless : (t : List ℕ) → AllEndless (lines_of t)
lines_endless [] = tt
lines_endless (b ∷ bs) = by_end b bs (eqb b 10) refl (lines_endless bs)

cut_line : (l rest : List ℕ) → Endless l → lines_of (l ++ (10 ∷ rest)) ≡ l ∷ lines_of rest
cut_line [] rest p = refl
cut_line (b ∷ bs) rest p =
    ap (λ t. cond t ([] ∷ lines_of (bs ++ (10 ∷ rest))) (on_first b (lines_of (bs ++ (10 ∷ rest))))) p.0 ∙ ap (on_first b) (cut_line bs rest p.1)

by_fill : (b : ℕ) (bs : List ℕ) (t : Bool) → Endless bs → eqb b 10 ≡ false → Endless (bare bs) → Endless (cond t (bare bs) (b ∷ bs))
by_fill b bs true p e q = q
by_fill b bs false p e q = (e, p)

bare_endless : (l : List ℕ) → Endless l → Endless (bare l)
bare_endless [] p = tt
bare_endless (b ∷ bs) p = by_fill b bs (is_fill b) p.1 p.0 (bare_endless bs p.1)

bare_by : (b : ℕ) (bs : List ℕ) (t : Bool) → is_fill b ≡ t → bare (bare bs) ≡ bare bs → bare (cond t (bare bs) (b ∷ bs)) ≡ cond t (bare bs) (b ∷ bs)
bare_by b bs true e p = p
bare_by b bs false e p = ap (λ t. cond t (bare bs) (b ∷ bs)) e

bare_bare : (l : List ℕ) → bare (bare l) ≡ bare l
bare_bare [] = refl
bare_bare (b ∷ bs) = bare_by b bs (is_fill b) refl (bare_bare bs)

bare_filled : (xs ys : List ℕ) → Filled xs → bare (xs ++ ys) ≡ bare ys
bare_filled [] ys p = refl
bare_filled (x ∷ xs) ys p = ap (λ t. cond t (bare (xs ++ ys)) (x ∷ (xs ++ ys))) p.0 ∙ bare_filled xs ys p.1

-- digits are fill, and end no line
digit_fill : (b : ℕ) → 48 ≤ b → b ≤ 57 → is_fill b ≡ true
digit_fill b low high =
    let p = ne_eqb b 32 (λ e. omega arith) in
    let q = le-leb 48 b low in
    let r = le-leb b 57 high in
    λ i. p i || (q i && r i)

digit_endless : (b : ℕ) → 48 ≤ b → eqb b 10 ≡ false
digit_endless b low = ne_eqb b 10 (λ e. omega arith)

decimal_fill : (n : ℕ) → n < 2 ^ 64 → Filled (decimal n) × Endless (decimal n)
decimal_fill n h = decimal_by_steps (λ n ds. Filled ds × Endless ds)
    (λ n l. ((digit_fill (48 + n) (omega arith) (omega arith), tt), (digit_endless (48 + n) (omega arith), tt)))
    (λ n ds l p. (
      filled_append ds ((48 + n % 10) ∷ []) p.0 (digit_fill (48 + n % 10) (omega arith) (omega arith), tt),
      endless_append ds ((48 + n % 10) ∷ []) p.1 (digit_endless (48 + n % 10) (omega arith), tt),
    ))
    n h

spaces_filled : Filled (codes "  ")
spaces_filled = (refl, (refl, tt))

spaces_endless : Endless (codes "  ")
spaces_endless = (refl, (refl, tt))

indent_fill : (st : Standing) (s : Said) → Filled (indent st s) × Endless (indent st s)
indent_fill Outside s = (tt, tt)
indent_fill Picture s = (tt, tt)
indent_fill (Definition h) erase = (spaces_filled, spaces_endless)
indent_fill (Definition h) endpic = (spaces_filled, spaces_endless)
indent_fill (Definition h) (subhed n k) = (spaces_filled, spaces_endless)
indent_fill (Definition h) subend = (tt, tt)
indent_fill (Definition h) (act a) = (spaces_filled, spaces_endless)

-- a statement whose words make a line that says it
pub record Clear (s : Said) : Type 0 where
  pub endless : Endless (words s)
  pub bared : bare (words s) ≡ words s
  pub loud : is_silent (words s) ≡ false
  pub read : worded (words s) ≡ Some s

abbrev pub AllClear : List Said → Type 0
AllClear [] = Unit {0}
AllClear (s ∷ ss) = Clear s × AllClear ss

-- the line of a listing says its statement
listed_heard : (st : Standing) (t : Told) → Clear t.said → t.place < 2 ^ 64 → (heard (line_of st t) ≡ saying t.said) × Endless (line_of st t)
listed_heard st t c h =
    let ws = words t.said in
    let d = decimal_fill t.place h in
    let i = indent_fill st t.said in
    let front : bare (line_of st t) ≡ ws
    = bare_filled (decimal t.place) (32 ∷ (indent st t.said ++ ws)) d.0 ∙ bare_filled (indent st t.said) ws i.0 ∙ c.bared in (
      ap (λ z. cond (is_silent z) silent (saying_of (worded z))) front ∙ ap (λ b. cond b silent (saying_of (worded ws))) c.loud ∙ ap saying_of c.read,
      endless_append (decimal t.place) (32 ∷ (indent st t.said ++ ws)) d.1 (refl, endless_append (indent st t.said) ws i.1 c.endless),
    )

abbrev pub last_line : List ℕ
last_line = codes "whole" ++ (10 ∷ [])

pub listing_spoken : (ss : List Said) (st : Standing) (at : ℕ) → AllClear ss → at + length (spell_all ss) < 2 ^ 64 → spoken (lines_of (lines st (placed at ss) ++ last_line)) ≡ map saying ss
listing_spoken [] st at c h = refl
listing_spoken (s ∷ ss) st at c h =
    let n = length-append (spell s) (spell_all ss) in
    let t : Told = record { place = at; said = s } in
    let low : at < 2 ^ 64 = omega arith in
    let more : at + length (spell s) + length (spell_all ss) < 2 ^ 64 = omega arith in
    let l = listed_heard st t c.0 low in
    let others = lines (onwards st s) (placed (at + length (spell s)) ss) in
    ap (λ z. spoken (lines_of z)) (append_assoc (line_of st t) (10 ∷ others) last_line)
    ∙ ap spoken (cut_line (line_of st t) (others ++ last_line) l.1)
    ∙ ap (λ k. unless_silent k (spoken (lines_of (others ++ last_line)))) l.0
    ∙ ap (λ z. saying s ∷ z) (listing_spoken ss (onwards st s) (at + length (spell s)) c.1 more)

nil_cons : (x : Line) (xs : List Line) → ◌≡◌ {A = List Line} [] (x ∷ xs) → ⊥
nil_cons x xs e = let z : ◌≡◌ {A = ℕ} 0 1 = cc in omega arith

cons_nil : (x : Line) (xs : List Line) → ◌≡◌ {A = List Line} (x ∷ xs) [] → ⊥
cons_nil x xs e = let z : ◌≡◌ {A = ℕ} 0 1 = cc in omega arith

unclear : (s : Said) (xs ys : List Line) → ◌≡◌ {A = List Line} (unreadable ∷ xs) (saying s ∷ ys) → ⊥
unclear s xs ys e = let z : ◌≡◌ {A = ℕ} 0 1 = cc in omega arith

same_said : (s t : Said) (xs ys : List Line) → ◌≡◌ {A = List Line} (saying s ∷ xs) (saying t ∷ ys) → (s ≡ t) × (xs ≡ ys)
same_said s t xs ys e = let p : s ≡ t = cc in let q : xs ≡ ys = cc in (p, q)

-- what the words of lines are that say these statements
pub record Sounds (ls : List (List ℕ)) (ss : List Said) : Type 0 where
  pub clear : AllClear ss
  pub same : wordings ls ≡ map words ss

-- a line that is not silent, and what comes after it
loud_sounds : (sound : WordsOnly) (l : List ℕ) (ls : List (List ℕ)) (ss : List Said) → Endless l → is_silent (bare l) ≡ false → ((ss' : List Said) → spoken ls ≡ map saying ss' → Sounds ls ss')
    → (w : Option Said) → worded (bare l) ≡ w → unless_silent (saying_of w) (spoken ls) ≡ map saying ss → AllClear ss × (bare l ∷ wordings ls ≡ map words ss)
loud_sounds sound l ls [] p q others None e f = absurd (cons_nil _ _ f)
loud_sounds sound l ls (s ∷ ss) p q others None e f = absurd (unclear _ _ _ f)
loud_sounds sound l ls [] p q others (Some t) e f = absurd (cons_nil _ _ f)
loud_sounds sound l ls (s ∷ ss) p q others (Some t) e f =
    let g = same_said t s (spoken ls) (map saying ss) f in
    let o = others ss g.1 in
    let r : worded (bare l) ≡ Some s = e ∙ ap (λ z. Some z) g.0 in
    let w : bare l ≡ words s = sym (sound (bare l) s r) in
    let clear : Clear s
    = record {
      endless = subst Endless w (bare_endless l p);
      bared = subst (λ z. bare z ≡ z) w (bare_bare l);
      loud = ap is_silent (sym w) ∙ q;
      read = ap worded (sym w) ∙ r;
    } in
    ((clear, o.clear), (λ i. w i ∷ o.same i))

by_silence : (sound : WordsOnly) (l : List ℕ) (ls : List (List ℕ)) (ss : List Said) → Endless l → ((ss' : List Said) → spoken ls ≡ map saying ss' → Sounds ls ss')
    → (b : Bool) → is_silent (bare l) ≡ b → unless_silent (cond b silent (saying_of (worded (bare l)))) (spoken ls) ≡ map saying ss → AllClear ss × (cond b (wordings ls) (bare l ∷ wordings ls) ≡ map words ss)
by_silence sound l ls ss p others true e f = let o = others ss f in (o.clear, o.same)
by_silence sound l ls ss p others false e f = loud_sounds sound l ls ss p e others (worded (bare l)) refl f

pub spoken_sounds : (sound : WordsOnly) (ls : List (List ℕ)) (ss : List Said) → AllEndless ls → spoken ls ≡ map saying ss → Sounds ls ss
spoken_sounds sound [] [] p e = record { clear = tt; same = refl }
spoken_sounds sound [] (s ∷ ss) p e = absurd (nil_cons _ _ e)
spoken_sounds sound (l ∷ ls) ss p e =
    let r = by_silence sound l ls ss p.0 (λ ss'. spoken_sounds sound ls ss' p.1) (is_silent (bare l)) refl e in
    record { clear = r.0; same = r.1 }

-- lines that say statements that the writer takes are composed
abbrev done : List Said → Composed
done ss = record { written = ss; failed = None }

module _ (size : ℕ) (st : State) (number : ℕ) (further : State → Composed) (ls : List Line)
    (others : (st' : State) (ss : List Said) → ls ≡ map saying ss → Takes size st' ss → further st' ≡ done ss) where
  heeded_again : (h : Line) (ss : List Said) → unless_silent h ls ≡ map saying ss → Takes size st ss → heeded size st number h further ≡ done ss
  heeded_again silent ss e t = others st ss e t
  heeded_again unreadable [] e t = absurd (cons_nil _ _ e)
  heeded_again unreadable (s ∷ ss) e t = absurd (unclear _ _ _ e)
  heeded_again (saying s) [] e t = absurd (cons_nil _ _ e)
  heeded_again (saying s) (s' ∷ ss) e t =
      let g = same_said s s' ls (map saying ss) e in
      ap (λ z. answered (answer_to size st st.inside z) st number z further) g.0
      ∙ ap (λ a. answered a st number s' further) t.0
      ∙ ap (preceded s') (others (after st s') ss g.1 t.1)

pub composing_again : (size : ℕ) (ls : List (List ℕ)) (st : State) (n : ℕ) (ss : List Said) → spoken ls ≡ map saying ss → Takes size st ss → composing size st n ls ≡ done ss
composing_again size [] st n [] e t = ap (λ o. stopped o (unfinished o n)) t
composing_again size [] st n (s ∷ ss) e t = absurd (nil_cons _ _ e)
composing_again size (l ∷ ls) st n ss e t =
    heeded_again size st (n + 1) (λ st'. composing size st' (n + 1) ls) (spoken ls) (λ st'. composing_again size ls st' (n + 1)) (heard l) ss e t
