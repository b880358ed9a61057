-- A byte finishes at most one picture.
use Rattle.std.proofs.Common.{ℕ, ◌+◌, ◌≤◌, leb, List, [], ◌++◌, length, arith}
use Rattle.statement.specs.declared.types.Header.{Header}
use Rattle.statement.specs.declared.types.Home.{Home}
use Rattle.statement.specs.declared.types.Home.TheVariants as home
use Rattle.statement.specs.Statements.{Said, erase, endpic, subhed, subend, act}
use Rattle.statement.specs.Reading.{Shape, more, refused, whole}
use Rattle.run.specs.declared.types.Fault.TheVariants as fault
use Rattle.run.specs.Runs.{Stance, outside, picture, defining, Drawing, taken, heeding, opening, recording, refusing, stance_as, is_full}
use Rattle.std.proofs.lemmas.Bool.{cond_both}

one_at_most : (n : ℕ) → n ≤ n + 1
one_at_most n = omega arith

opens : (w : Home) (n : List ℕ) (h : Header) (at : ℕ) (d : Drawing) → (opening w n h at d).pictures ≤ d.pictures + 1
opens w n h at d =
    cond_both (is_full d.table n) (refusing fault.NoRoom at d) (stance_as (defining w n h []) d) (λ z. z.pictures ≤ d.pictures + 1) (λ e. one_at_most d.pictures) (λ e. one_at_most d.pictures)

records : (w : Home) (n : List ℕ) (h : Header) (bs : List ℕ) (at : ℕ) (d : Drawing) → (recording w n h bs at d).pictures ≤ d.pictures + 1
records w n h bs at d =
    cond_both (leb 1025 (length bs)) (refusing fault.NoRoom at d) (stance_as (defining w n h bs) d) (λ z. z.pictures ≤ d.pictures + 1) (λ e. one_at_most d.pictures) (λ e. one_at_most d.pictures)

takes : (s : Stance) (x : Said) (h : List ℕ) (at : ℕ) (d : Drawing) (k : ℕ) → (taken s x h at d k).drawing.pictures ≤ d.pictures + 1
takes outside erase h at d k = one_at_most d.pictures
takes outside endpic h at d k = one_at_most d.pictures
takes outside (subhed n e) h at d k = opens home.Outside n e at d
takes outside subend h at d k = one_at_most d.pictures
takes outside (act a) h at d k = one_at_most d.pictures
takes picture erase h at d k = one_at_most d.pictures
takes picture endpic h at d k = omega arith
takes picture (subhed n e) h at d k = opens home.Picture n e at d
takes picture subend h at d k = one_at_most d.pictures
takes picture (act a) h at d k = one_at_most d.pictures
takes (defining w n e bs) erase h at d k = one_at_most d.pictures
takes (defining w n e bs) endpic h at d k = one_at_most d.pictures
takes (defining w n e bs) (subhed m f) h at d k = one_at_most d.pictures
takes (defining w n e bs) subend h at d k = one_at_most d.pictures
takes (defining w n e bs) (act a) h at d k = records w n e (bs ++ h) at d

pub few_pictures : (h : List ℕ) (s : Shape) (at : ℕ) (d : Drawing) (k : ℕ) → (heeding h s at d k).drawing.pictures ≤ d.pictures + 1
few_pictures h more at d k = one_at_most d.pictures
few_pictures h (refused f) at d k = one_at_most d.pictures
few_pictures h (whole s) at d k = takes d.stance s h at d k
