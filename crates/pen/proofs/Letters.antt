-- A text, code by code.
use Rattle.std.proofs.Common.{◌≡◌, ℕ, ◌+◌, ◌<◌, ◌≤◌, ◌&&◌, true, false, cond, List, length, get_or, drop, pos, ◌+ℤ◌, sym, refl, ap, ◌∙◌, add-one, drop-cons}
use lib.Signed.{lt_z}
use denote.Enum.Bare.{sameb}
use Rattle.statement.specs.contracts.layout.Manner.{the_type}
use Rattle.std.proofs.lemmas.List.{drop_all}
use Rattle.statement.specs.declared.layout.Manner.{Manner}
use Rattle.statement.specs.declared.layout.Manner.TheVariants.{Onward, Restoring, Wrapping}
use Rattle.run.specs.declared.types.Fault.{Fault}
use Rattle.run.specs.Inks.{Ink, Drawn, good, stopped, and_then, go_to}
use Rattle.run.specs.Texts.{is_printed, next_line, set_letter, control, break_line, set_code, set_codes}

-- a line is broken where lines are and the next letter would pass the margin
pub breaking : (m : Manner) (i : Ink) → break_line m i ≡ cond (sameb the_type m Wrapping && lt_z (pos 16384) (i.beam.x +ℤ pos 450)) (go_to (next_line i.beam) i) (good i)
breaking Onward i = refl
breaking Restoring i = refl
breaking Wrapping i = refl

module _ (m : Manner) (b : ℕ) (i : Ink) where
  pub controls : is_printed b ≡ false → control b i ≡ set_code m b i
  controls t = sym (ap (λ z. cond z (and_then (break_line m i) (set_letter b)) (control b i)) t)

  prints : is_printed b ≡ true → and_then (break_line m i) (set_letter b) ≡ set_code m b i
  prints t = sym (ap (λ z. cond z (and_then (break_line m i) (set_letter b)) (control b i)) t)

  pub sets : {d : Drawn} (j : Ink) → is_printed b ≡ true → good j ≡ break_line m i → d ≡ set_letter b j → d ≡ set_code m b i
  sets j t e h = h ∙ ap (λ z. and_then z (set_letter b)) e ∙ prints t

  pub stops : {f : Fault} {j : Ink} → is_printed b ≡ true → stopped f j ≡ break_line m i → stopped f j ≡ set_code m b i
  stops t e = ap (λ z. and_then z (set_letter b)) e ∙ prints t

module _ (m : Manner) (bs : List ℕ) (k : ℕ) (i : Ink) where
  next : k < length bs → set_codes m (drop k bs) i ≡ and_then (set_code m (get_or bs k 0) i) (set_codes m (drop (k + 1) bs))
  next h = rw (add-one, drop-cons bs k 0)

  pub goes_on : {j : Ink} → k < length bs → good j ≡ set_code m (get_or bs k 0) i → set_codes m (drop k bs) i ≡ set_codes m (drop (k + 1) bs) j
  goes_on h e = next h ∙ sym (ap (λ z. and_then z (set_codes m (drop (k + 1) bs))) e)

  pub breaks_off : {f : Fault} {j : Ink} → k < length bs → stopped f j ≡ set_code m (get_or bs k 0) i → set_codes m (drop k bs) i ≡ stopped f j
  breaks_off h e = next h ∙ sym (ap (λ z. and_then z (set_codes m (drop (k + 1) bs))) e)

  pub ends : length bs ≤ k → set_codes m (drop k bs) i ≡ good i
  ends h = let d = drop_all k bs h in simp d
