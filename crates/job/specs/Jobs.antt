-- What a job prints.
use Rattle.std.specs.Prelude.{◌≡◌, ℕ, ◌+◌, ◌*◌, true, cond, List, ◌++◌, length, drop, None, Ok, Err, Result, nat_le, nat_lt, slice_index}
use Rattle.printing.specs.Prints.{printed}
use Rattle.run.specs.Cuttings.{outcome}
use Rattle.run.specs.Runs.{Config, run, finish, report_of}
use Rattle.reader.specs.declared.reader.Reader.{Reader}
use Rattle.reader.specs.Views.{config_of}
use Rattle.sheet.specs.Meanings.{blank}
use Rattle.job.specs.declared.refusal.Refusal.{Refusal}
use Rattle.job.specs.declared.refusal.Refusal.TheVariants.{Length, Side, TooShort}

-- the number of a refusal
abbrev pub job_number : Refusal → ℕ
job_number Length = 22
job_number Side = 18
job_number TooShort = 21

-- a job is a side in two bytes, the high one first, and a stream
abbrev pub side_of : List ℕ → ℕ
side_of job = slice_index job 0 * 256 + slice_index job 1

abbrev pub stream_of : List ℕ → List ℕ
stream_of job = drop 2 job

-- the side of a job, if it is fit to be drawn: its length is looked at first
abbrev pub admission : List ℕ → Result ℕ Refusal
admission job =
    cond (nat_lt (length job) 2) (Err Length) (cond (nat_lt 65538 (length job)) (Err Length)
    (cond (nat_lt (side_of job) 8) (Err Side) (cond (nat_lt 512 (side_of job)) (Err Side) (Ok (side_of job)))))

-- the run of a stream and of a finish, on a clear bit sheet of a side
abbrev pub drawing : ℕ → List ℕ → Config
drawing n bs = outcome (blank n None) bs true

-- the page and the report that it comes to
abbrev pub drawn_text : ℕ → List ℕ → List ℕ
drawn_text n bs = printed (drawing n bs).drawing.ink.sheet (report_of (drawing n bs))

abbrev pub job_text : List ℕ → List ℕ
job_text job = drawn_text (side_of job) (stream_of job)

-- what any reader, new or not, comes to by a stream and a finish, on a clear bit sheet of a side
abbrev pub drawing_by : Reader → ℕ → List ℕ → Config
drawing_by r n bs = finish (run (config_of r (blank n None)) bs)

-- the page and the report of a configuration
abbrev pub shown : Config → List ℕ
shown c = printed c.drawing.ink.sheet (report_of c)

abbrev pub job_text_by : Reader → List ℕ → List ℕ
job_text_by r job = shown (drawing_by r (side_of job) (stream_of job))

-- the answer to a text of so many bytes for a buffer of so many: their number, if there is room
abbrev pub fit_answer : ℕ → ℕ → Result ℕ Refusal
fit_answer size space = cond (nat_le size space) (Ok size) (Err TooShort)

abbrev pub answer_by : Result ℕ Refusal → ℕ → ℕ → Result ℕ Refusal
answer_by (Ok n) size space = fit_answer size space
answer_by (Err e) size space = Err e

-- a job that is not admitted is refused so; any other is answered by its text
abbrev pub job_answer : List ℕ → ℕ → Result ℕ Refusal
job_answer job space = answer_by (admission job) (length (job_text job)) space

-- the buffer afterwards: the text and then what was there, or all that was there
abbrev pub leaves : Result ℕ Refusal → List ℕ → List ℕ → List ℕ
leaves (Ok n) text buffer = text ++ drop (length text) buffer
leaves (Err e) text buffer = buffer

-- the reader afterwards: what the configuration has, with its sheet
abbrev pub Came : Reader → Config → Type 0
Came r c = config_of r c.drawing.ink.sheet ≡ c

-- a job that is not admitted leaves the reader as it was; any other leaves it as its stream and a finish do
abbrev pub LeavesReader : Result ℕ Refusal → List ℕ → Reader → Reader → Type 0
LeavesReader (Ok n) job before after = Came after (drawing_by before (side_of job) (stream_of job))
LeavesReader (Err e) job before after = after ≡ before
