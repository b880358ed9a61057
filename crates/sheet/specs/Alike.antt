-- Sheets that are alike, of whatever kind they are.
use Rattle.std.specs.Prelude.{◌≡◌, Bool, true, false, ◌&&◌, List, [], ◌∷◌, ℤ, Ok, Err, Result}
use Rattle.mark.specs.declared.Mark.{Mark}
use Rattle.sheet.specs.declared.refusals.Refusal.{Refusal}
use Rattle.sheet.specs.declared.refusals.Refusal.TheVariants.{Full}
use Rattle.sheet.specs.Meanings.{Meaning, answer, marked}

-- of one side, with the same pixels inked and the same stock, now and when full
pub record Alike (a b : Meaning) : Type 0 where
  pub side : a.side ≡ b.side
  pub inked : (z : ℤ × ℤ) → a.inked z ≡ b.inked z
  pub stock : a.stock ≡ b.stock
  pub full : a.full ≡ b.full

-- two answers are the same
abbrev pub same_answer : Result (Unit {0}) Refusal → Result (Unit {0}) Refusal → Bool
same_answer (Ok u) (Ok v) = true
same_answer (Ok u) (Err e) = false
same_answer (Err e) (Ok v) = false
same_answer (Err Full) (Err Full) = true

-- two sheets give the same answers to one mark after another
abbrev pub same_answers : Meaning → Meaning → List Mark → Bool
same_answers a b [] = true
same_answers a b (m ∷ ms) = same_answer (answer a) (answer b) && same_answers (marked a m) (marked b m) ms
