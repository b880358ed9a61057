-- A statement of which more is wanted has at most 515 bytes.
use Rattle.std.proofs.Common.{◌≡◌, ℕ, ◌+◌, ◌-◌, ◌*◌, ◌≤◌, Bool, true, false, cond, ◌&&◌, eqb, ltb, List, [], ◌∷◌, length, take, drop, Some, None, Option, arith, length-drop, ltb-false, ltb-true}
use Rattle.std.proofs.lemmas.Bool.{cond_both}
use Rattle.statement.specs.declared.layout.Layout.{Layout}
use Rattle.statement.specs.declared.layout.Layout.TheVariants as layout
use Rattle.statement.specs.declared.layout.Manner.{Manner}
use Rattle.statement.specs.declared.layout.Trace.{Trace}
use Rattle.statement.specs.declared.layout.Aim.{Aim}
use Rattle.statement.specs.declared.types.Fault.{Fault}
use Rattle.statement.specs.declared.types.Fault.TheVariants as fault
use Rattle.statement.specs.declared.types.Header.{Header}
use Rattle.statement.specs.declared.types.Standing.{Standing}
use Rattle.statement.specs.Statements.{CallTail, Said, act, plain, call, letters, travel, subhed, layout_of, allowed}
use Rattle.statement.specs.Reading.{Shape, more, refused, whole, Front, wanting, wrong, found, onto, long_count, count, measured, string, texted, escaped, pair, titled, headed, heading, header_of, lawful_tail, is_name, named_tail, is_text, tailed, tail_of, calling, arguments, admitted, reading, lawful, coordinate}
use Rattle.reader.specs.Held.{is_more}

-- of n bytes: at most w if more is wanted, and at most k before what is left if something was found
abbrev Few : {A : Type 0} → ℕ → ℕ → ℕ → Front A → Type 0
Few n w k wanting = n ≤ w
Few n w k (wrong f) = Unit {0}
Few n w k (found a rest) = n ≤ k + length rest

few_count : (bs : List ℕ) → Few (length bs) 1 2 (count bs)
few_count [] = omega arith
few_count (n ∷ []) = cond_both (ltb n 128) (found n []) wanting (Few 1 1 2) (λ e. omega arith) (λ e. omega arith)
few_count (n ∷ l ∷ rest) =
    cond_both (ltb n 128) (found n (l ∷ rest)) (long_count n (l ∷ rest)) (Few (length (n ∷ l ∷ rest)) 1 2) (λ e. omega arith)
    (λ e. cond_both (ltb ((n - 128) * 256 + l) 128) (wrong fault.ShortCount) (found ((n - 128) * 256 + l) rest) (Few (length (n ∷ l ∷ rest)) 1 2) (λ f. tt) (λ f. omega arith))

few_measured : (limit m : ℕ) (f : Front ℕ) → Few m 1 2 f → Few m (limit + 1) (limit + 2) (measured limit f)
few_measured limit m wanting h = omega arith
few_measured limit m (wrong f) h = tt
few_measured limit m (found n rest) h =
    cond_both (ltb limit n) (wrong fault.TooLong) (cond (ltb (length rest) n) wanting (found (take n rest) (drop n rest))) (Few m (limit + 1) (limit + 2)) (λ e. tt)
    (λ e. cond_both (ltb (length rest) n) wanting (found (take n rest) (drop n rest)) (Few m (limit + 1) (limit + 2))
    (λ t. omega (arith, ltb-true (length rest) n t, ltb-false limit n e))
    (λ t. omega (arith, ltb-false limit n e, length-drop n rest)))

few_string : (limit : ℕ) (bs : List ℕ) → Few (length bs) (limit + 1) (limit + 2) (string limit bs)
few_string limit bs = few_measured limit (length bs) (count bs) (few_count bs)

-- what follows a string, if it wants no more than r bytes
few_onto : (m w k r : ℕ) (f : Front (List ℕ)) (go : List ℕ → List ℕ → Shape) → w ≤ k + r → ((a rest : List ℕ) → is_more (go a rest) ≡ true → length rest ≤ r)
    → Few m w k f → is_more (onto f go) ≡ true → m ≤ k + r
few_onto m w k r wanting go l h j e = omega arith
few_onto m w k r (wrong f) go l h j e = absurd cc
few_onto m w k r (found a rest) go l h j e = omega (arith, h a rest e)

-- a whole statement or a refusal wants no more
settled : {X : Type 0} (t : Bool) (s : Said) (f : Fault) → is_more (cond t (whole s) (refused f)) ≡ true → X
settled true s f e = absurd cc
settled false s f e = absurd cc

text_never : {X : Type 0} (m : Manner) (t rest : List ℕ) → is_more (texted m t rest) ≡ true → X
text_never m t rest e = settled (is_text t) (act (plain (letters m t))) fault.WrongCharacter e

-- at least one byte of a string is not there, so the bound is one less than after it
few_text : (m : Manner) (f : Front (List ℕ)) (n : ℕ) → Few n 513 514 f → is_more (onto f (texted m)) ≡ true → n ≤ 513
few_text m wanting n h e = h
few_text m (wrong f) n h e = absurd cc
few_text m (found a rest) n h e = text_never m a rest e

few_escape : (v : ℕ) (f : Front (List ℕ)) (n : ℕ) → Few n 513 514 f → is_more (onto f (escaped v)) ≡ true → n ≤ 513
few_escape v wanting n h e = h
few_escape v (wrong f) n h e = absurd cc
few_escape v (found a rest) n h e = absurd cc

few_pair : (t : Trace) (a : Aim) (rest : List ℕ) → is_more (pair t a rest) ≡ true → length rest ≤ 3
few_pair t a [] e = omega arith
few_pair t a (b ∷ []) e = omega arith
few_pair t a (b ∷ c ∷ []) e = omega arith
few_pair t a (b ∷ c ∷ d ∷ []) e = omega arith
few_pair t a (b ∷ c ∷ d ∷ x ∷ rest) e =
    settled (lawful a (coordinate b c) && lawful a (coordinate d x)) (act (plain (travel t a (coordinate b c) (coordinate d x)))) fault.WrongCoordinate e

titled_never : {X : Type 0} (n : List ℕ) (h : Option Header) → is_more (titled n h) ≡ true → X
titled_never n None e = absurd cc
titled_never n (Some h) e = settled (is_name n) (subhed n h) fault.WrongCharacter e

headed_few : (n rest : List ℕ) → is_more (headed n rest) ≡ true → length rest ≤ 0
headed_few n [] e = omega arith
headed_few n (h ∷ rest) e = titled_never n (header_of h) e

few_heading : (n rest : List ℕ) → is_more (heading n rest) ≡ true → length rest ≤ 14
few_heading n [] e = omega arith
few_heading n (b ∷ rest) e =
    cond_both (eqb b 1) (headed n rest) (refused fault.WrongLayout) (λ s. is_more s ≡ true → length (b ∷ rest) ≤ 14)
    (λ f g. omega (arith, headed_few n rest g)) (λ f g. absurd cc) e

tailed_never : {X : Type 0} (n : List ℕ) (t : Option CallTail) → is_more (tailed n t) ≡ true → X
tailed_never n None e = absurd cc
tailed_never {X} n (Some t) e =
    cond_both (lawful_tail t) (cond (is_name n && named_tail t) (whole (act (call n t))) (refused fault.WrongCharacter)) (refused fault.WrongCoordinate) (λ s. is_more s ≡ true → X)
    (λ f. settled (is_name n && named_tail t) (act (call n t)) fault.WrongCharacter) (λ f g. absurd cc) e

few_calling : (n rest : List ℕ) → is_more (calling n rest) ≡ true → length rest ≤ 14
few_calling n [] e = omega arith
few_calling n (t ∷ rest) e =
    cond_both (ltb 14 t) (refused fault.WrongLayout) (cond (ltb (length rest) t) more (tailed n (tail_of (take t rest)))) (λ s. is_more s ≡ true → length (t ∷ rest) ≤ 14)
    (λ f g. absurd cc)
    (λ f. cond_both (ltb (length rest) t) more (tailed n (tail_of (take t rest))) (λ s. is_more s ≡ true → length (t ∷ rest) ≤ 14)
    (λ g _. omega (arith, ltb-false 14 t f, ltb-true (length rest) t g))
    (λ g. tailed_never n (tail_of (take t rest)))) e

few_arguments : (l : Layout) (rest : List ℕ) → is_more (arguments l rest) ≡ true → length rest ≤ 514
few_arguments (layout.Bare b) rest e = absurd cc
few_arguments (layout.Pair t a) rest e = omega (arith, few_pair t a rest e)
few_arguments (layout.Text m) rest e = omega (arith, few_text m (string 512 rest) (length rest) (few_string 512 rest) e)
few_arguments layout.Escape [] e = omega arith
few_arguments layout.Escape (v ∷ rest) e = omega (arith, few_escape v (string 512 rest) (length rest) (few_string 512 rest) e)
few_arguments (layout.Value s) [] e = omega arith
few_arguments (layout.Value s) (v ∷ rest) e = absurd cc
few_arguments layout.Heading rest e =
    omega (arith, few_onto (length rest) 9 10 14 (string 8 rest) heading (omega arith) few_heading (few_string 8 rest) e)
few_arguments layout.Calling rest e =
    omega (arith, few_onto (length rest) 9 10 14 (string 8 rest) calling (omega arith) few_calling (few_string 8 rest) e)

few_admitted : (ok : Bool) (l : Option Layout) (rest : List ℕ) → is_more (admitted ok l rest) ≡ true → length rest ≤ 514
few_admitted ok None rest e = absurd cc
few_admitted true (Some l) rest e = few_arguments l rest e
few_admitted false (Some l) rest e = absurd cc

pub few : (st : Standing) (bs : List ℕ) → is_more (reading st bs) ≡ true → length bs ≤ 515
few st [] e = omega arith
few st (c ∷ rest) e = omega (arith, few_admitted (allowed st c) (layout_of c) rest e)
