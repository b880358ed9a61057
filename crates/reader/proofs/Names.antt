-- The name of a definition, as it is read, has at most 8 bytes.
use Rattle.std.proofs.Common.{◌≡◌, ℕ, ◌≤◌, Bool, true, false, cond, ◌&&◌, eqb, ltb, List, [], ◌∷◌, length, take, drop, Some, None, Option, sym, subst, arith, length-take, ltb-false}
use Rattle.statement.specs.declared.layout.Bare.{Bare}
use Rattle.statement.specs.declared.layout.Bare.TheVariants as bare
use Rattle.statement.specs.declared.layout.Layout.{Layout}
use Rattle.statement.specs.declared.layout.Layout.TheVariants as layout
use Rattle.statement.specs.declared.layout.Trace.{Trace}
use Rattle.statement.specs.declared.layout.Aim.{Aim}
use Rattle.statement.specs.declared.types.Fault.{Fault}
use Rattle.statement.specs.declared.types.Fault.TheVariants as fault
use Rattle.statement.specs.declared.types.Header.{Header}
use Rattle.statement.specs.declared.types.Standing.{Standing}
use Rattle.statement.specs.Statements.{CallTail, Said, Act, act, plain, call, letters, travel, subhed, alone, layout_of, allowed}
use Rattle.statement.specs.Reading.{Shape, more, refused, whole, Front, wanting, wrong, found, onto, count, measured, string, texted, escaped, pair, titled, headed, heading, header_of, lawful_tail, is_name, named_tail, is_text, tailed, tail_of, calling, arguments, admitted, reading, lawful, coordinate}
use Rattle.reader.specs.Held.{NameFits}
use Rattle.std.proofs.lemmas.Bool.{cond_both}

abbrev pub Fit : Shape → Type 0
Fit more = Unit {0}
Fit (refused f) = Unit {0}
Fit (whole s) = NameFits s

-- an act or a refusal
fit_act : (t : Bool) (a : Act) (f : Fault) → Fit (cond t (whole (act a)) (refused f))
fit_act true a f = tt
fit_act false a f = tt

-- what was found has at most 8 bytes
abbrev Short : Front (List ℕ) → Type 0
Short wanting = Unit {0}
Short (wrong f) = Unit {0}
Short (found a rest) = length a ≤ 8

short_measured : (f : Front ℕ) → Short (measured 8 f)
short_measured wanting = tt
short_measured (wrong f) = tt
short_measured (found n rest) =
    cond_both (ltb 8 n) (wrong fault.TooLong) (cond (ltb (length rest) n) wanting (found (take n rest) (drop n rest))) Short (λ e. tt)
    (λ e. cond_both (ltb (length rest) n) wanting (found (take n rest) (drop n rest)) Short (λ t. tt)
    (λ t. omega (arith, ltb-false 8 n e, length-take n rest)))

fit_onto : (f : Front (List ℕ)) (go : List ℕ → List ℕ → Shape) → ((a rest : List ℕ) → Fit (go a rest)) → Fit (onto f go)
fit_onto wanting go h = tt
fit_onto (wrong f) go h = tt
fit_onto (found a rest) go h = h a rest

fit_short : (f : Front (List ℕ)) (go : List ℕ → List ℕ → Shape) → Short f → ((a rest : List ℕ) → length a ≤ 8 → Fit (go a rest)) → Fit (onto f go)
fit_short wanting go s h = tt
fit_short (wrong f) go s h = tt
fit_short (found a rest) go s h = h a rest s

fit_titled : (n : List ℕ) (h : Option Header) → length n ≤ 8 → Fit (titled n h)
fit_titled n None l = tt
fit_titled n (Some h) l = cond_both (is_name n) (whole (subhed n h)) (refused fault.WrongCharacter) Fit (λ e. l) (λ e. tt)

fit_headed : (n rest : List ℕ) → length n ≤ 8 → Fit (headed n rest)
fit_headed n [] l = tt
fit_headed n (h ∷ rest) l = fit_titled n (header_of h) l

fit_heading : (n rest : List ℕ) → length n ≤ 8 → Fit (heading n rest)
fit_heading n [] l = tt
fit_heading n (b ∷ rest) l = cond_both (eqb b 1) (headed n rest) (refused fault.WrongLayout) Fit (λ e. fit_headed n rest l) (λ e. tt)

fit_tailed : (n : List ℕ) (t : Option CallTail) → Fit (tailed n t)
fit_tailed n None = tt
fit_tailed n (Some t) =
    cond_both (lawful_tail t) (cond (is_name n && named_tail t) (whole (act (call n t))) (refused fault.WrongCharacter)) (refused fault.WrongCoordinate) Fit
    (λ e. fit_act (is_name n && named_tail t) (call n t) fault.WrongCharacter) (λ e. tt)

fit_calling : (n rest : List ℕ) → Fit (calling n rest)
fit_calling n [] = tt
fit_calling n (t ∷ rest) =
    cond_both (ltb 14 t) (refused fault.WrongLayout) (cond (ltb (length rest) t) more (tailed n (tail_of (take t rest)))) Fit (λ e. tt)
    (λ e. cond_both (ltb (length rest) t) more (tailed n (tail_of (take t rest))) Fit (λ g. tt) (λ g. fit_tailed n (tail_of (take t rest))))

fit_pair : (t : Trace) (a : Aim) (rest : List ℕ) → Fit (pair t a rest)
fit_pair t a [] = tt
fit_pair t a (b ∷ []) = tt
fit_pair t a (b ∷ c ∷ []) = tt
fit_pair t a (b ∷ c ∷ d ∷ []) = tt
fit_pair t a (b ∷ c ∷ d ∷ x ∷ rest) =
    fit_act (lawful a (coordinate b c) && lawful a (coordinate d x)) (plain (travel t a (coordinate b c) (coordinate d x))) fault.WrongCoordinate

fit_alone : (b : Bare) → NameFits (alone b)
fit_alone bare.Null = tt
fit_alone bare.Erase = tt
fit_alone bare.Endpic = tt
fit_alone bare.Subend = tt
fit_alone bare.Mark = tt
fit_alone bare.Movemk = tt
fit_alone bare.Drawmk = tt

fit_arguments : (l : Layout) (rest : List ℕ) → Fit (arguments l rest)
fit_arguments (layout.Bare b) rest = fit_alone b
fit_arguments (layout.Pair t a) rest = fit_pair t a rest
fit_arguments (layout.Text m) rest = fit_onto (string 512 rest) (texted m) (λ t r. fit_act (is_text t) (plain (letters m t)) fault.WrongCharacter)
fit_arguments layout.Escape [] = tt
fit_arguments layout.Escape (v ∷ rest) = fit_onto (string 512 rest) (escaped v) (λ t r. tt)
fit_arguments (layout.Value s) [] = tt
fit_arguments (layout.Value s) (v ∷ rest) = tt
fit_arguments layout.Heading rest = fit_short (string 8 rest) heading (short_measured (count rest)) fit_heading
fit_arguments layout.Calling rest = fit_onto (string 8 rest) calling fit_calling

fit_admitted : (ok : Bool) (l : Option Layout) (rest : List ℕ) → Fit (admitted ok l rest)
fit_admitted ok None rest = tt
fit_admitted true (Some l) rest = fit_arguments l rest
fit_admitted false (Some l) rest = tt

fit : (st : Standing) (bs : List ℕ) → Fit (reading st bs)
fit st [] = tt
fit st (c ∷ rest) = fit_admitted (allowed st c) (layout_of c) rest

pub name_fits : (st : Standing) (bs : List ℕ) (s : Said) → whole s ≡ reading st bs → NameFits s
name_fits st bs s e = subst Fit (sym e) (fit st bs)
