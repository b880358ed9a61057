-- What a sheet means, and what a mark and a clearing make of it.
use Rattle.std.specs.Prelude.{ℕ, zero, suc, Bool, true, false, ◌&&◌, ◌||◌, List, [], ◌∷◌, ℤ, is_ok, Some, None, Ok, Err, Option, Result}
use Rattle.mark.specs.declared.Mark.{Mark}
use Rattle.mark.specs.Covers.{covers}
use Rattle.sheet.specs.declared.refusals.Refusal.{Refusal}
use Rattle.sheet.specs.declared.refusals.Refusal.TheVariants.{Full}

-- stock is how many marks the sheet still takes, and full how many it takes when it is clear; None where there is no end
pub record Meaning : Type 0 where
  pub side : ℕ
  pub inked : ℤ × ℤ → Bool
  pub stock : Option ℕ
  pub full : Option ℕ

-- the answer to a mark, by the stock
abbrev pub answer_by : Option ℕ → Result (Unit {0}) Refusal
answer_by None = Ok tt
answer_by (Some zero) = Err Full
answer_by (Some (suc n)) = Ok tt

-- the answer to a mark
abbrev pub answer : Meaning → Result (Unit {0}) Refusal
answer a = answer_by a.stock

-- with the pixels of a mark inked too, and what is left of the stock
abbrev pub gains : Meaning → Mark → Option ℕ → Meaning
gains a m left = record {
  side = a.side;
  inked = λ z. a.inked z || covers a.side m z;
  stock = left;
  full = a.full;
}

abbrev pub marked_by : Option ℕ → Meaning → Mark → Meaning
marked_by None a m = gains a m None
marked_by (Some zero) a m = a
marked_by (Some (suc n)) a m = gains a m (Some n)

-- after a mark, taken or refused
abbrev pub marked : Meaning → Mark → Meaning
marked a m = marked_by a.stock a m

-- after one mark after another
abbrev pub marked_all : Meaning → List Mark → Meaning
marked_all a [] = a
marked_all a (m ∷ ms) = marked_all (marked a m) ms

-- whether one mark after another is taken
abbrev pub takes_all : Meaning → List Mark → Bool
takes_all a [] = true
takes_all a (m ∷ ms) = is_ok (answer a) && takes_all (marked a m) ms

-- after a clearing: nothing is inked, and the stock is full
abbrev pub cleared : Meaning → Meaning
cleared a = record { side = a.side; inked = λ z. false; stock = a.full; full = a.full }

-- a clear sheet of that side
abbrev pub blank : ℕ → Option ℕ → Meaning
blank n full = record { side = n; inked = λ z. false; stock = full; full = full }
