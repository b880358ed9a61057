-- What the exported calls answer.
use Rattle.std.specs.Prelude.{◌≡◌, ℕ, ◌⊎◌, List, length, Ok, Err, Result}
use Rattle.run.specs.declared.types.Life.{Life}
use Rattle.run.specs.declared.types.Life.TheVariants.{Live, Closed, Refused}
use Rattle.run.specs.Faults.{number_of}
use Rattle.sheet.specs.declared.refusals.Unfit.{Unfit}
use Rattle.sheet.specs.Refusals.{unfit_number}
use Rattle.raster.specs.Asking.{asked}
use Rattle.raster.specs.Bits.{Clean, bit_meaning}
use Rattle.job.specs.declared.refusal.Refusal.{Refusal}
use Rattle.job.specs.Jobs.{job_number, job_answer, job_text, leaves, drawing}
use Rattle.exported.specs.declared.answers.Drawn.{Drawn}

-- the answer of a job in numbers
abbrev pub drawn_as : Result ℕ Refusal → Drawn
drawn_as (Ok n) = record { printed = n; refusal = 0 }
drawn_as (Err e) = record { printed = 0; refusal = job_number e }

-- the number of a run's fault, or 0
abbrev pub life_number : Life → ℕ
life_number Live = 0
life_number Closed = 0
life_number (Refused f) = number_of f.fault

-- a job is answered, and the buffer left, as its whole stream says
pub record JobDrawn (job before : List ℕ) (r : Drawn) (after : List ℕ) : Type 0 where
  pub answer : r ≡ drawn_as (job_answer job (length before))
  pub bytes : after ≡ leaves (job_answer job (length before)) (job_text job) before

-- or there is no memory for a reader, and nothing is altered
pub record NoMemory (number : ℕ) (before after : List ℕ) : Type 0 where
  pub number_is : number ≡ 255
  pub unaltered : after ≡ before

abbrev pub JobAnswered : List ℕ → List ℕ → Drawn → List ℕ → Type 0
JobAnswered job before r after = JobDrawn job before r after ⊎ NoMemory r.refusal before after

-- the bits of the memory are the page of the run of a stream and of a finish, spare bits are 0, and the answer is the number of the run's fault
pub record PageDrawn (n : ℕ) (bs : List ℕ) (r : ℕ) (after : List ℕ) : Type 0 where
  pub answer : r ≡ life_number (drawing n bs).drawing.life
  pub page : bit_meaning n after ≡ (drawing n bs).drawing.ink.sheet
  pub spare : Clean n after

-- by the answer to the asking: a wrong one alters nothing
abbrev pub answered_by : Result (Unit {0}) Unfit → ℕ → List ℕ → List ℕ → ℕ → List ℕ → Type 0
answered_by (Ok u) n bs before r after = PageDrawn n bs r after ⊎ NoMemory r before after
answered_by (Err e) n bs before r after = (r ≡ unfit_number e) × (after ≡ before)

abbrev pub PageAnswered : ℕ → List ℕ → List ℕ → ℕ → List ℕ → Type 0
PageAnswered n bs before r after = answered_by (asked n (length before)) n bs before r after
