-- What a table of strokes means, and when one can be made.
use Rattle.std.specs.Prelude.{ℕ, ◌-◌, Bool, false, cond, ◌||◌, List, [], ◌∷◌, length, take, ℤ, Some, Ok, Err, Result, nat_lt, slice_set}
use Rattle.mark.specs.Covers.{covers}
use Rattle.mark.specs.declared.Mark.{Mark}
use Rattle.sheet.specs.declared.refusals.Refusal.{Refusal}
use Rattle.sheet.specs.declared.refusals.Unfit.{Unfit}
use Rattle.sheet.specs.declared.refusals.Unfit.TheVariants.{Memory}
use Rattle.sheet.specs.Refusals.{sided}
use Rattle.sheet.specs.Meanings.{Meaning, answer_by}
use Rattle.strokes.specs.declared.records.Stroke.{Stroke}
use Rattle.strokes.specs.Strokes.{mark_of, stroke_of}

-- some stroke covers the pixel z on a sheet of n by n pixels
abbrev pub inked_by : ℕ → List Stroke → ℤ × ℤ → Bool
inked_by n [] z = false
inked_by n (s ∷ ss) z = covers n (mark_of s) z || inked_by n ss z

-- what a table means whose first `used` records are its strokes so far
abbrev pub table_meaning : ℕ → ℕ → List Stroke → Meaning
table_meaning n used ss = record {
  side = n;
  inked = inked_by n (take used ss);
  stock = Some (length ss - used);
  full = Some (length ss);
}

-- the answer to the asking for a side over so many records: the side is looked at first
abbrev pub asked : ℕ → ℕ → Result (Unit {0}) Unfit
asked n len = sided n (cond (nat_lt 65536 len) (Err Memory) (Ok tt))

-- the answer to the first mark on a table over so many records, once the asking was answered
abbrev pub first_answer : Result (Unit {0}) Unfit → ℕ → Result (Result (Unit {0}) Refusal) Unfit
first_answer (Ok u) len = Ok (answer_by (Some len))
first_answer (Err e) len = Err e

-- the records after that mark
abbrev pub first_records : Result (Unit {0}) Unfit → List Stroke → Mark → List Stroke
first_records (Ok u) ss m = slice_set ss 0 (stroke_of m)
first_records (Err e) ss m = ss
