-- What a list of operations writes.
use Rattle.std.specs.Prelude.{ℕ, ◌+◌, List, [], ◌∷◌, length, Some, None, Ok, Err, Option, Result}
use Rattle.std.proofs.lemmas.List.Edits.{sets}
use Rattle.statement.specs.Statements.{Said, erase, endpic, subhed, subend, act}
use Rattle.statement.specs.Views.{said_by}
use Rattle.spelling.specs.Spelling.{spell}
use Rattle.spelling.specs.Laws.{spell_all}
use Rattle.writer.specs.declared.types.Opened.{Opened}
use Rattle.writer.specs.declared.types.Opened.TheVariants as opened
use Rattle.history.specs.declared.operation.Operation.{Operation}
use Rattle.history.specs.declared.operation.Operation.TheVariants.{Picture, Definition, Write, Close}
use Rattle.writer.specs.declared.types.Refusal.{Refusal}
use Rattle.writer.specs.Names.{with_name}
use Rattle.writer.specs.Answers.{make_answer, write_answer, picture_answer, definition_answer, heading, closing}

-- where a writer is: what is open, if anything, the names defined, and the bytes used
pub record State : Type 0 where
  pub inside : Option Opened
  pub named : List (List ℕ)
  pub filled : ℕ

-- nothing is open
abbrev pub idle : List (List ℕ) → ℕ → State
idle ns n = record { inside = None; named = ns; filled = n }

-- this is open
abbrev pub busy : Opened → List (List ℕ) → ℕ → State
busy o ns n = record { inside = Some o; named = ns; filled = n }

-- what is open after a statement that ends at a place
abbrev pub inside_after : Said → ℕ → Option Opened → Option Opened
inside_after erase n o = Some opened.Picture
inside_after endpic n o = None
inside_after (subhed m h) n o = Some (opened.Definition n)
inside_after subend n o = None
inside_after (act a) n o = o

abbrev pub named_after : Said → List (List ℕ) → List (List ℕ)
named_after erase ns = ns
named_after endpic ns = ns
named_after (subhed m h) ns = with_name ns m
named_after subend ns = ns
named_after (act a) ns = ns

-- where a writer is after a statement
abbrev pub after : State → Said → State
after st s = record {
  inside = inside_after s (st.filled + length (spell s)) st.inside;
  named = named_after s st.named;
  filled = st.filled + length (spell s);
}

abbrev pub where_fine : Result (Unit {0}) Refusal → Said → Option Said
where_fine (Ok x) s = Some s
where_fine (Err e) s = None

-- the statement that an operation writes into a buffer of so many bytes, if it fits what is open and is not refused
abbrev pub taken : ℕ → State → Option Opened → Operation → Option Said
taken size st None Picture = where_fine (picture_answer st.filled size) erase
taken size st None (Definition n h) = where_fine (definition_answer st.named st.filled size n.now h) (heading n.now h)
taken size st None (Write s) = None
taken size st None Close = None
taken size st (Some o) Picture = None
taken size st (Some o) (Definition n h) = None
taken size st (Some o) (Write s) = where_fine (write_answer o st.filled size (said_by s)) (said_by s)
taken size st (Some o) Close = Some (closing o)

abbrev pub onward : Option Said → State → (State → List Said) → List Said
onward None st f = f st
onward (Some s) st f = s ∷ f (after st s)

-- what is open at the end is closed
abbrev pub ending : Option Opened → List Said
ending None = []
ending (Some o) = closing o ∷ []

abbrev pub tale : ℕ → State → List Operation → List Said
tale size st [] = ending st.inside
tale size st (op ∷ ops) = onward (taken size st st.inside op) st (λ st'. tale size st' ops)

-- the statements that a new writer over so many bytes accepts, with their openings and closings
abbrev pub accepted : ℕ → List Operation → List Said
accepted size ops = tale size (idle [] 0) ops

-- what a buffer comes to hold, how much of it is written, and its size
pub record Book : Type 0 where
  pub bytes : List ℕ
  pub reach : ℕ
  pub size : ℕ

abbrev pub book : List ℕ → State → List Operation → Book
book out st ops = record {
  bytes = sets out st.filled (spell_all (tale (length out) st ops));
  reach = st.filled + length (spell_all (tale (length out) st ops));
  size = length out;
}

abbrev pub counted : Result (Unit {0}) Refusal → ℕ → Result ℕ Refusal
counted (Ok x) n = Ok n
counted (Err e) n = Err e

-- the answer to a list of operations: the bytes written
abbrev pub play_answer : ℕ → List Operation → Result ℕ Refusal
play_answer size ops = counted (make_answer size) (length (spell_all (accepted size ops)))
