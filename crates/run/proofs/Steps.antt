-- One byte, of runs that differ in the bytes read and the statement count.
use Rattle.std.proofs.Common.{◌≡◌, ℕ, ◌+◌, Bool, true, false, cond, leb, List, [], ◌∷◌, ◌++◌, length, Some, None, Option, sym, refl, ap, ◌∙◌}
use Rattle.statement.specs.declared.types.Home.TheVariants as home
use Rattle.statement.specs.Statements.{Said, erase, endpic, subhed, subend, act}
use Rattle.statement.specs.Reading.{Shape, more, refused, whole, reading}
use Rattle.spelling.specs.Walking.{longest_stream}
use Rattle.run.specs.declared.types.Fault.{Fault}
use Rattle.run.specs.declared.types.Fault.TheVariants as fault
use Rattle.run.specs.declared.types.Life.{Life}
use Rattle.run.specs.declared.types.Life.TheVariants.{Live, Closed, Refused}
use Rattle.run.specs.Performing.{Trouble, perform_top}
use Rattle.run.specs.Runs.{Stance, outside, picture, defining, standing_of, Drawing, Config, refusing, stance_as, is_full, life_after, ink_as, taken, heeding, one_more, reads, code_place, too_long, step_live, step, run}
use Rattle.run.specs.Written.{is_refused, NotRefused}
use Rattle.run.proofs.Agreeing.{perform_agree}

abbrev pub with_counts : Drawing → ℕ → ℕ → Config
with_counts d r k = record { drawing = d; read = r; count = k }

pub none_refused : (at : ℕ) (r : Option Trouble) → is_refused (life_after at r) ≡ false → r ≡ None
none_refused at None e = refl
none_refused at (Some t) e = cc

-- what is not refused is below the limit on a stream's length
pub below_limit : (t : Bool) (c d : Config) → NotRefused (cond t (too_long c) d) → cond t (too_long c) d ≡ d
below_limit true c d h = cc
below_limit false c d h = refl

-- the place of a refusal does not matter to what is not refused
unless_placed : (t : Bool) (f : Fault) (p q : ℕ) (d e : Drawing) → is_refused (cond t (refusing f p d) e).life ≡ false → cond t (refusing f p d) e ≡ cond t (refusing f q d) e
unless_placed true f p q d e h = cc
unless_placed false f p q d e h = refl

taken_agree : (st : Stance) (s : Said) (h : List ℕ) (p q : ℕ) (d : Drawing) (k l : ℕ)
    → is_refused (taken st s h p d k).drawing.life ≡ false → is_refused (taken st s h q d l).drawing.life ≡ false
    → (taken st s h p d k).drawing ≡ (taken st s h q d l).drawing
taken_agree outside erase h p q d k l x y = refl
taken_agree outside endpic h p q d k l x y = cc
taken_agree outside (subhed n e) h p q d k l x y = unless_placed (is_full d.table n) fault.NoRoom p q d (stance_as (defining home.Outside n e []) d) x
taken_agree outside subend h p q d k l x y = cc
taken_agree outside (act a) h p q d k l x y = cc
taken_agree picture erase h p q d k l x y = cc
taken_agree picture endpic h p q d k l x y = refl
taken_agree picture (subhed n e) h p q d k l x y = unless_placed (is_full d.table n) fault.NoRoom p q d (stance_as (defining home.Picture n e []) d) x
taken_agree picture subend h p q d k l x y = cc
taken_agree picture (act a) h p q d k l x y =
    let o = perform_top d.table a d.ink k in
    let r = perform_top d.table a d.ink l in
    let u = none_refused p o.refusal x in
    let v = none_refused q r.refusal y in
    ap (ink_as p d o.ink) u ∙ ap (λ z. ink_as p d z None) (perform_agree d.table 8 8 [] [] 0 0 a d.ink k l u v) ∙ sym (ap (ink_as q d r.ink) v)
taken_agree (defining w n e bs) erase h p q d k l x y = cc
taken_agree (defining w n e bs) endpic h p q d k l x y = cc
taken_agree (defining w n e bs) (subhed m f) h p q d k l x y = cc
taken_agree (defining w n e bs) subend h p q d k l x y = refl
taken_agree (defining w n e bs) (act a) h p q d k l x y =
    unless_placed (leb 1025 (length (bs ++ h))) fault.NoRoom p q d (stance_as (defining w n e (bs ++ h)) d) x

heeding_agree : (h : List ℕ) (s : Shape) (p q : ℕ) (d : Drawing) (k l : ℕ)
    → is_refused (heeding h s p d k).drawing.life ≡ false → is_refused (heeding h s q d l).drawing.life ≡ false
    → (heeding h s p d k).drawing ≡ (heeding h s q d l).drawing
heeding_agree h more p q d k l x y = refl
heeding_agree h (refused f) p q d k l x y = cc
heeding_agree h (whole s) p q d k l x y = taken_agree d.stance s h p q d k l x y

step_live_agree : (f : Life) (d : Drawing) (r k s l b : ℕ) → NotRefused (step_live f (with_counts d r k) b) → NotRefused (step_live f (with_counts d s l) b)
    → (step_live f (with_counts d r k) b).drawing ≡ (step_live f (with_counts d s l) b).drawing
step_live_agree Live d r k s l b x y =
    let p = code_place (with_counts d r k) in
    let q = code_place (with_counts d s l) in
    let u = below_limit (leb longest_stream r) (with_counts d r k) (reads (r + 1) (one_more p d k b)) x in
    let v = below_limit (leb longest_stream s) (with_counts d s l) (reads (s + 1) (one_more q d l b)) y in
    ap (λ c. c.drawing) u
    ∙ heeding_agree (d.held ++ (b ∷ [])) (reading (standing_of d.stance) (d.held ++ (b ∷ []))) p q d k l
    (sym (ap (λ c. is_refused c.drawing.life) u) ∙ x) (sym (ap (λ c. is_refused c.drawing.life) v) ∙ y)
    ∙ sym (ap (λ c. c.drawing) v)
step_live_agree Closed d r k s l b x y = refl
step_live_agree (Refused f) d r k s l b x y = refl

-- equal but for bytes read and statement count, and so after one byte more that neither is refused for
pub step_agree : (c e : Config) (b : ℕ) → c.drawing ≡ e.drawing → NotRefused (step c b) → NotRefused (step e b) → (step c b).drawing ≡ (step e b).drawing
step_agree c e b p x y =
    let q = ap (λ d. (step (with_counts d e.read e.count) b).drawing) p in
    step_live_agree c.drawing.life c.drawing c.read c.count e.read e.count b x (ap (λ d. is_refused d.life) q ∙ y) ∙ q

before_step : (l : Life) (c : Config) (b : ℕ) → c.drawing.life ≡ l → NotRefused (step c b) → NotRefused c
before_step Live c b e h = ap is_refused e
before_step Closed c b e h = ap is_refused e
before_step (Refused f) c b e h = sym (ap (λ z. is_refused (step_live z c b).drawing.life) e) ∙ h

-- a run that is not refused was not refused before
pub before : (c : Config) (bs : List ℕ) → NotRefused (run c bs) → NotRefused c
before c [] h = h
before c (b ∷ bs) h = before_step c.drawing.life c b refl (before (step c b) bs h)

pub run-++ : (c : Config) (xs ys : List ℕ) → run c (xs ++ ys) ≡ run (run c xs) ys
run-++ c [] ys = refl
run-++ c (x ∷ xs) ys = run-++ (step c x) xs ys
