-- What a writer answers.
use Rattle.std.specs.Prelude.{ℕ, ◌-◌, Bool, true, false, cond, not, List, [], length, is_some, Some, None, Ok, Err, Option, Result, nat_le, nat_lt}
use Rattle.statement.specs.declared.types.Fault.{Fault}
use Rattle.statement.specs.declared.types.Fault.TheVariants as fault
use Rattle.statement.specs.declared.types.Header.{Header}
use Rattle.statement.specs.declared.types.Header.TheVariants as header
use Rattle.statement.specs.Statements.{Said, erase, endpic, subhed, subend, act}
use Rattle.statement.specs.Reading.{is_name, header_of}
use Rattle.statement.specs.Views.{fault_number}
use Rattle.spelling.specs.Spelling.{spell, first_of, unless, fault_of}
use Rattle.writer.specs.declared.types.Opened.{Opened}
use Rattle.writer.specs.declared.types.Opened.TheVariants.{Picture, Definition}
use Rattle.writer.specs.declared.types.Refusal.{Refusal}
use Rattle.writer.specs.declared.types.Refusal.TheVariants as refusal
use Rattle.writer.specs.Bodies.{stays_short}
use Rattle.writer.specs.Names.{is_one_too_many}

-- the number under which something is not written
abbrev pub refusal_number : Refusal → ℕ
refusal_number (refusal.Statement f) = fault_number f
refusal_number refusal.NoRoom = 8
refusal_number refusal.Memory = 19
refusal_number refusal.Buffer = 21

-- the answer to a making over so many bytes
abbrev pub make_answer : ℕ → Result (Unit {0}) Refusal
make_answer size = cond (nat_le size 16777216) (Ok tt) (Err refusal.Memory)

-- the statement comes first, then the limits on bodies and names, then the bytes left
abbrev pub judged : Option Fault → Bool → Bool → Result (Unit {0}) Refusal
judged (Some f) fits free = Err (refusal.Statement f)
judged None fits free = cond fits (cond free (Ok tt) (Err refusal.Buffer)) (Err refusal.NoRoom)

-- fewer bytes than are left, so that one stays free for the closing
abbrev pub leaves_one : ℕ → ℕ → Said → Bool
leaves_one used size s = nat_lt (length (spell s)) (size - used)

-- ERASE, ENDPIC, SUBHED and SUBEND open and close
abbrev pub frames : Said → Bool
frames erase = true
frames endpic = true
frames (subhed n h) = true
frames subend = true
frames (act a) = false

-- what is wrong with a statement that is to be written
abbrev pub writing_fault : Said → Option Fault
writing_fault s = first_of (unless (not (frames s)) fault.Misplaced) (fault_of s)

-- the answer to a statement where so many bytes of so many are used
abbrev pub write_answer : Opened → ℕ → ℕ → Said → Result (Unit {0}) Refusal
write_answer o used size s = judged (writing_fault s) (stays_short o used (length (spell s))) (leaves_one used size s)

-- the answer to the opening of a picture
abbrev pub picture_answer : ℕ → ℕ → Result (Unit {0}) Refusal
picture_answer used size = judged None true (leaves_one used size erase)

-- the header of a byte that is one
abbrev pub header_in : Option Header → Header
header_in None = header.Simple
header_in (Some h) = h

-- the statement that opens a definition
abbrev pub heading : List ℕ → ℕ → Said
heading n h = subhed n (header_in (header_of h))

abbrev pub heading_fault : List ℕ → ℕ → Option Fault
heading_fault n h = first_of (unless (nat_le (length n) 8) fault.TooLong) (first_of (unless (is_some (header_of h)) fault.WrongLayout) (unless (is_name n) fault.WrongCharacter))

-- the answer to the opening of a definition where these names are known
abbrev pub definition_answer : List (List ℕ) → ℕ → ℕ → List ℕ → ℕ → Result (Unit {0}) Refusal
definition_answer ns used size n h = judged (heading_fault n h) (not (is_one_too_many ns n)) (leaves_one used size (heading n h))

-- the statement that closes what is open
abbrev pub closing : Opened → Said
closing Picture = endpic
closing (Definition at) = subend

-- the bytes that an answer lets through
abbrev pub passed : Result (Unit {0}) Refusal → List ℕ → List ℕ
passed (Ok x) bs = bs
passed (Err e) bs = []
