-- What a sheet refuses, by number, and the sides that no sheet has.
use Rattle.std.specs.Prelude.{ℕ, cond, Err, Result, nat_lt}
use Rattle.sheet.specs.declared.refusals.Refusal.{Refusal}
use Rattle.sheet.specs.declared.refusals.Refusal.TheVariants.{Full}
use Rattle.sheet.specs.declared.refusals.Unfit.{Unfit}
use Rattle.sheet.specs.declared.refusals.Unfit.TheVariants.{Side, Memory}

abbrev pub refusal_number : Refusal → ℕ
refusal_number Full = 17

abbrev pub unfit_number : Unfit → ℕ
unfit_number Side = 18
unfit_number Memory = 19

-- the refusal of a side that is not 8 to 2,048, and else the rest of the answer
abbrev pub sided : ℕ → Result (Unit {0}) Unfit → Result (Unit {0}) Unfit
sided n rest = cond (nat_lt n 8) (Err Side) (cond (nat_lt 2048 n) (Err Side) rest)
