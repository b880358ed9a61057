-- What the bytes so far have settled, no byte after them changes.
use Rattle.std.proofs.Common.{◌≡◌, ℕ, ◌+◌, ◌-◌, ◌*◌, ◌≤◌, Bool, true, false, cond, eqb, ltb, List, [], ◌∷◌, ◌++◌, length, take, drop, Some, None, Option, sym, refl, ap, ◌∙◌, subst, arith, length-append}
use Rattle.std.proofs.lemmas.List.{take-append-le, drop-append-le}
use Rattle.std.proofs.lemmas.Bool.{ltb-false, le-ltb}
use Rattle.statement.specs.declared.layout.Trace.{Trace}
use Rattle.statement.specs.declared.layout.Aim.{Aim}
use Rattle.statement.specs.declared.layout.Layout.{Layout}
use Rattle.statement.specs.declared.layout.Layout.TheVariants as layout
use Rattle.statement.specs.declared.layout.Setting.{Setting}
use Rattle.statement.specs.declared.types.Fault.{Fault}
use Rattle.statement.specs.declared.types.Fault.TheVariants as fault
use Rattle.statement.specs.declared.types.Standing.{Standing}
use Rattle.statement.specs.Statements.{Said, layout_of, allowed}
use Rattle.statement.specs.Reading.{Shape, more, refused, whole, Front, wanting, wrong, found, onto, long_count, count, measured, string, coordinate, travelled, pair, texted, escaped, escaping, setting, header_of, titled, headed, heading, tail_of, tailed, calling, arguments, admitted, reading}

-- what is not open any more stays
abbrev pub Settled : Shape → Shape → Type 0
Settled more later = Unit {0}
Settled (refused f) later = later ≡ refused f
Settled (whole s) later = later ≡ whole s

-- what is found or wrong at the front stays, with the later bytes after it
abbrev pub Grown : {A : Type 0} → Front A → List ℕ → Front A → Type 0
Grown wanting ys later = Unit {0}
Grown (wrong f) ys later = later ≡ wrong f
Grown (found a rest) ys later = later ≡ found a (rest ++ ys)

settled_same : (x : Shape) → Settled x x
settled_same more = tt
settled_same (refused f) = refl
settled_same (whole s) = refl

cond_settled : (b : Bool) (x y x' y' : Shape) → Settled x x' → Settled y y' → Settled (cond b x y) (cond b x' y')
cond_settled true x y x' y' p q = p
cond_settled false x y x' y' p q = q

cond_grown : {A : Type 0} (ys : List ℕ) (b : Bool) (x y x' y' : Front A) → Grown x ys x' → Grown y ys y' → Grown (cond b x y) ys (cond b x' y')
cond_grown ys true x y x' y' p q = p
cond_grown ys false x y x' y' p q = q

long_grows : (h : ℕ) (xs ys : List ℕ) → Grown (long_count h xs) ys (long_count h (xs ++ ys))
long_grows h [] ys = tt
long_grows h (l ∷ xs) ys =
    let n = (h - 128) * 256 + l in
    cond_grown ys (ltb n 128) (wrong fault.ShortCount) (found n xs) (wrong fault.ShortCount) (found n (xs ++ ys)) refl refl

count_grows : (xs ys : List ℕ) → Grown (count xs) ys (count (xs ++ ys))
count_grows [] ys = tt
count_grows (n ∷ xs) ys = cond_grown ys (ltb n 128) (found n xs) (long_count n xs) (found n (xs ++ ys)) (long_count n (xs ++ ys)) refl (long_grows n xs ys)

-- a test that further bytes can only make false, before what they then leave
cut_grows : (n : ℕ) (xs ys : List ℕ) (b : Bool) → ltb (length xs) n ≡ b
    → Grown (cond b wanting (found (take n xs) (drop n xs))) ys (cond (ltb (length (xs ++ ys)) n) wanting (found (take n (xs ++ ys)) (drop n (xs ++ ys))))
cut_grows n xs ys true e = tt
cut_grows n xs ys false e =
    let h : n ≤ length xs = ltb-false (length xs) n e in
    let k : ltb (length (xs ++ ys)) n ≡ false = le-ltb (length (xs ++ ys)) n (omega (arith, length-append xs ys)) in
    ap (λ b. cond b wanting (found (take n (xs ++ ys)) (drop n (xs ++ ys)))) k
    ∙ ap (λ z. found z (drop n (xs ++ ys))) (take-append-le n xs ys h) ∙ ap (found (take n xs)) (drop-append-le n xs ys h)

measured_grows : (limit : ℕ) (ys : List ℕ) (p later : Front ℕ) → Grown p ys later → Grown (measured limit p) ys (measured limit later)
measured_grows limit ys wanting later h = tt
measured_grows limit ys (wrong f) later h = ap (measured limit) h
measured_grows limit ys (found n xs) later h =
    let P : Front ℕ → Type 0 = λ z. Grown (measured limit (found n xs)) ys (measured limit z) in
    subst P (sym h) (cond_grown ys (ltb limit n) (wrong fault.TooLong) _ (wrong fault.TooLong) _ refl (cut_grows n xs ys (ltb (length xs) n) refl))

string_grows : (limit : ℕ) (xs ys : List ℕ) → Grown (string limit xs) ys (string limit (xs ++ ys))
string_grows limit xs ys = measured_grows limit ys (count xs) (count (xs ++ ys)) (count_grows xs ys)

onto_settles : {A : Type 0} (ys : List ℕ) (p later : Front A) (k : A → List ℕ → Shape) → Grown p ys later
    → ((a : A) (rest : List ℕ) → Settled (k a rest) (k a (rest ++ ys))) → Settled (onto p k) (onto later k)
onto_settles ys wanting later k h s = tt
onto_settles ys (wrong f) later k h s = ap (λ z. onto z k) h
onto_settles ys (found a rest) later k h s =
    let P : Front _ → Type 0 = λ z. Settled (k a rest) (onto z k) in
    subst P (sym h) (s a rest)

pair_settles : (t : Trace) (a : Aim) (xs ys : List ℕ) → Settled (pair t a xs) (pair t a (xs ++ ys))
pair_settles t a [] ys = tt
pair_settles t a (b ∷ []) ys = tt
pair_settles t a (b ∷ c ∷ []) ys = tt
pair_settles t a (b ∷ c ∷ d ∷ []) ys = tt
pair_settles t a (b ∷ c ∷ d ∷ e ∷ rest) ys = settled_same (travelled t a (coordinate b c) (coordinate d e))

escaping_settles : (xs ys : List ℕ) → Settled (escaping xs) (escaping (xs ++ ys))
escaping_settles [] ys = tt
escaping_settles (v ∷ xs) ys = onto_settles ys (string 512 xs) (string 512 (xs ++ ys)) (escaped v) (string_grows 512 xs ys) (λ t rest. refl)

setting_settles : (s : Setting) (xs ys : List ℕ) → Settled (setting s xs) (setting s (xs ++ ys))
setting_settles s [] ys = tt
setting_settles s (v ∷ xs) ys = refl

headed_settles : (n : List ℕ) (xs ys : List ℕ) → Settled (headed n xs) (headed n (xs ++ ys))
headed_settles n [] ys = tt
headed_settles n (h ∷ xs) ys = settled_same (titled n (header_of h))

heading_settles : (n : List ℕ) (xs ys : List ℕ) → Settled (heading n xs) (heading n (xs ++ ys))
heading_settles n [] ys = tt
heading_settles n (b ∷ xs) ys = cond_settled (eqb b 1) (headed n xs) _ (headed n (xs ++ ys)) _ (headed_settles n xs ys) refl

tailed_settles : (n : List ℕ) (t : ℕ) (xs ys : List ℕ) (b : Bool) → ltb (length xs) t ≡ b
    → Settled (cond b more (tailed n (tail_of (take t xs)))) (cond (ltb (length (xs ++ ys)) t) more (tailed n (tail_of (take t (xs ++ ys)))))
tailed_settles n t xs ys true e = tt
tailed_settles n t xs ys false e =
    let h : t ≤ length xs = ltb-false (length xs) t e in
    let k : ltb (length (xs ++ ys)) t ≡ false = le-ltb (length (xs ++ ys)) t (omega (arith, length-append xs ys)) in
    let P : Shape → Type 0 = Settled (tailed n (tail_of (take t xs))) in
    let same = ap (λ b. cond b more (tailed n (tail_of (take t (xs ++ ys))))) k ∙ ap (λ z. tailed n (tail_of z)) (take-append-le t xs ys h) in
    subst P (sym same) (settled_same (tailed n (tail_of (take t xs))))

calling_settles : (n : List ℕ) (xs ys : List ℕ) → Settled (calling n xs) (calling n (xs ++ ys))
calling_settles n [] ys = tt
calling_settles n (t ∷ xs) ys = cond_settled (ltb 14 t) (refused fault.WrongLayout) _ (refused fault.WrongLayout) _ refl (tailed_settles n t xs ys (ltb (length xs) t) refl)

arguments_settle : (l : Layout) (xs ys : List ℕ) → Settled (arguments l xs) (arguments l (xs ++ ys))
arguments_settle (layout.Bare b) xs ys = refl
arguments_settle (layout.Pair t a) xs ys = pair_settles t a xs ys
arguments_settle (layout.Text m) xs ys =
    onto_settles ys (string 512 xs) (string 512 (xs ++ ys)) (texted m) (string_grows 512 xs ys) (λ t rest. settled_same (texted m t rest))
arguments_settle layout.Escape xs ys = escaping_settles xs ys
arguments_settle (layout.Value s) xs ys = setting_settles s xs ys
arguments_settle layout.Heading xs ys = onto_settles ys (string 8 xs) (string 8 (xs ++ ys)) heading (string_grows 8 xs ys) (λ n rest. heading_settles n rest ys)
arguments_settle layout.Calling xs ys = onto_settles ys (string 8 xs) (string 8 (xs ++ ys)) calling (string_grows 8 xs ys) (λ n rest. calling_settles n rest ys)

admitted_settles : (ok : Bool) (l : Option Layout) (xs ys : List ℕ) → Settled (admitted ok l xs) (admitted ok l (xs ++ ys))
admitted_settles ok None xs ys = refl
admitted_settles true (Some l) xs ys = arguments_settle l xs ys
admitted_settles false (Some l) xs ys = refl

pub reading_settles : (st : Standing) (xs ys : List ℕ) → Settled (reading st xs) (reading st (xs ++ ys))
reading_settles st [] ys = tt
reading_settles st (c ∷ xs) ys = admitted_settles (allowed st c) (layout_of c) xs ys

pub stays_whole : (st : Standing) (xs ys : List ℕ) (s : Said) → reading st xs ≡ whole s → reading st (xs ++ ys) ≡ whole s
stays_whole st xs ys s e = subst (λ z. Settled z (reading st (xs ++ ys))) e (reading_settles st xs ys)

pub stays_refused : (st : Standing) (xs ys : List ℕ) (f : Fault) → reading st xs ≡ refused f → reading st (xs ++ ys) ≡ refused f
stays_refused st xs ys f e = subst (λ z. Settled z (reading st (xs ++ ys))) e (reading_settles st xs ys)
