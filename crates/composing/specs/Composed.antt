-- What composing gives: the statements that are written, and why it ends before the text does, if so.
use Rattle.std.specs.Prelude.{ℕ, ◌+◌, Bool, true, false, cond, List, [], ◌∷◌, length, Some, None, Ok, Err, Option, Result}
use Rattle.std.proofs.lemmas.List.Edits.{sets}
use Rattle.statement.specs.declared.types.Fault.TheVariants as fault
use Rattle.wording.specs.Words.{worded}
use Rattle.statement.specs.Statements.{Said, erase, endpic, subhed, subend, act}
use Rattle.statement.specs.Reading.{header_byte}
use Rattle.spelling.specs.Laws.{spell_all}
use Rattle.writer.specs.declared.types.Opened.{Opened}
use Rattle.writer.specs.declared.types.Opened.TheVariants as opened
use Rattle.writer.specs.declared.types.Refusal.{Refusal}
use Rattle.writer.specs.declared.types.Refusal.TheVariants as refusal
use Rattle.writer.specs.Answers.{make_answer, write_answer, picture_answer, definition_answer, closing}
use Rattle.history.specs.Tales.{State, idle, busy, after, ending}
use Rattle.composing.specs.declared.types.Failure.{Failure}
use Rattle.composing.specs.declared.types.Failure.TheVariants as failure
use Rattle.composing.specs.Lines.{Line, silent, unreadable, saying, saying_of, lines_of, heard}

-- what may not come here
abbrev pub misplaced : Result (Unit {0}) Refusal
misplaced = Err (refusal.Statement fault.Misplaced)

-- ENDPIC closes a picture, and SUBEND a definition
abbrev pub closes : Opened → Said → Bool
closes opened.Picture erase = false
closes opened.Picture endpic = true
closes opened.Picture (subhed n h) = false
closes opened.Picture subend = false
closes opened.Picture (act a) = false
closes (opened.Definition at) erase = false
closes (opened.Definition at) endpic = false
closes (opened.Definition at) (subhed n h) = false
closes (opened.Definition at) subend = true
closes (opened.Definition at) (act a) = false

-- the writer's answer to a statement, by what is open: outside ERASE and SUBHED open, inside what does not close is written
abbrev pub answer_to : ℕ → State → Option Opened → Said → Result (Unit {0}) Refusal
answer_to size st None erase = picture_answer st.filled size
answer_to size st None endpic = misplaced
answer_to size st None (subhed n h) = definition_answer st.named st.filled size n (header_byte h)
answer_to size st None subend = misplaced
answer_to size st None (act a) = misplaced
answer_to size st (Some o) s = cond (closes o s) (Ok tt) (write_answer o st.filled size s)

-- the statements that are written, and why composing fails, if it does
pub record Composed : Type 0 where
  pub written : List Said
  pub failed : Option Failure

-- what is open is closed, also where composing fails
abbrev pub stopped : Option Opened → Option Failure → Composed
stopped o f = record { written = ending o; failed = f }

-- the text ends while something is open
abbrev pub unfinished : Option Opened → ℕ → Option Failure
unfinished None n = None
unfinished (Some o) n = Some (failure.Unfinished n)

abbrev pub preceded : Said → Composed → Composed
preceded s c = record { written = s ∷ c.written; failed = c.failed }

-- a statement, by the writer's answer to it
abbrev pub answered : Result (Unit {0}) Refusal → State → ℕ → Said → (State → Composed) → Composed
answered (Ok x) st n s further = preceded s (further (after st s))
answered (Err e) st n s further = stopped st.inside (Some (failure.Refused e n))

-- a line, by what it says
abbrev pub heeded : ℕ → State → ℕ → Line → (State → Composed) → Composed
heeded size st n silent further = further st
heeded size st n unreadable further = stopped st.inside (Some (failure.Unreadable n))
heeded size st n (saying s) further = answered (answer_to size st st.inside s) st n s further

-- lines that come after so many others, into a buffer of so many bytes
abbrev pub composing : ℕ → State → ℕ → List (List ℕ) → Composed
composing size st n [] = stopped st.inside (unfinished st.inside n)
composing size st n (l ∷ ls) = heeded size st (n + 1) (heard l) (λ st'. composing size st' (n + 1) ls)

-- a whole text; a buffer that no writer may be made over fails before the first line
abbrev pub composed_in : Result (Unit {0}) Refusal → ℕ → List ℕ → Composed
composed_in (Ok x) size text = composing size (idle [] 0) 0 (lines_of text)
composed_in (Err e) size text = stopped None (Some (failure.Refused e 0))

abbrev pub composed : ℕ → List ℕ → Composed
composed size text = composed_in (make_answer size) size text

-- the answer: the number of bytes written, or the failure
abbrev pub answering : Option Failure → ℕ → Result ℕ Failure
answering None n = Ok n
answering (Some f) n = Err f

abbrev pub answer_of : Composed → Result ℕ Failure
answer_of c = answering c.failed (length (spell_all c.written))

-- the bytes that are written; none where there is no memory to begin
abbrev pub written_by : {E : Type 0} → Result (Result ℕ Failure) E → Composed → List ℕ
written_by (Ok a) c = spell_all c.written
written_by (Err e) c = []

-- what a buffer comes to hold, how much of it is written, its size, and why composing fails
pub record Ledger : Type 0 where
  pub bytes : List ℕ
  pub reach : ℕ
  pub size : ℕ
  pub failed : Option Failure

abbrev pub ledger : List ℕ → ℕ → Composed → Ledger
ledger out used c = record {
  bytes = sets out used (spell_all c.written);
  reach = used + length (spell_all c.written);
  size = length out;
  failed = c.failed;
}

-- the ledger of a composing that is over, with nothing left open
abbrev pub end_ledger : Option Failure → List ℕ → ℕ → Ledger
end_ledger f out used = record { bytes = out; reach = used; size = length out; failed = f }

-- the ledger of a composing that goes on, or has failed with nothing left open
abbrev pub on_ledger : Option Failure → List ℕ → State → ℕ → List (List ℕ) → Ledger
on_ledger None out st n ls = ledger out st.filled (composing (length out) st n ls)
on_ledger (Some f) out st n ls = end_ledger (Some f) out st.filled

-- a composing whose next line that says something has these words; so many lines are read by then
abbrev pub worded_next : Option (List ℕ) → ℕ → State → ℕ → List (List ℕ) → Composed
worded_next None size st n ls = composing size st n []
worded_next (Some ws) size st n ls = heeded size st n (saying_of (worded ws)) (λ st'. composing size st' n ls)

-- the failure of an answer at a line, if it is one
abbrev pub refused_at : Result (Unit {0}) Refusal → ℕ → Option Failure
refused_at (Ok x) n = None
refused_at (Err e) n = Some (failure.Refused e n)

-- why a line opens nothing, if so, by the statement that it says
abbrev pub failure_at : ℕ → State → Option Said → ℕ → Option Failure
failure_at size st None n = Some (failure.Unreadable n)
failure_at size st (Some s) n = refused_at (answer_to size st None s) n

-- the ledger of a composing that has come to a closing, or has failed, with this still open
abbrev pub closing_ledger : Option Failure → List ℕ → Opened → List (List ℕ) → ℕ → ℕ → List (List ℕ) → Ledger
closing_ledger None out o ns used n ls = ledger out used (preceded (closing o) (composing (length out) (after (busy o ns used) (closing o)) n ls))
closing_ledger (Some f) out o ns used n ls = ledger out used (stopped (Some o) (Some f))
