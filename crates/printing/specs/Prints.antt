-- What is printed, and into what buffers.
use Rattle.std.specs.Prelude.{ℕ, cond, List, ◌++◌, length, drop, Ok, Err, Result, nat_le}
use Rattle.run.specs.declared.types.Report.{Report}
use Rattle.sheet.specs.Meanings.{Meaning}
use Rattle.printing.specs.declared.refusals.TooShort.{TooShort}
use Rattle.printing.specs.Pages.{page_text}
use Rattle.printing.specs.Reports.{report_line}

-- a page, and the report below it
abbrev pub printed : Meaning → Report → List ℕ
printed m r = page_text m ++ report_line r

-- how many bytes are put into a buffer of so many, if there is room
abbrev pub fitted : ℕ → ℕ → Result ℕ TooShort
fitted n space = cond (nat_le n space) (Ok n) (Err (record {}))

-- a buffer with a text at its front and as it was behind, if there is room
abbrev pub overlaid : List ℕ → List ℕ → List ℕ
overlaid text buffer = cond (nat_le (length text) (length buffer)) (text ++ drop (length text) buffer) buffer
