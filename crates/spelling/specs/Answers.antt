-- What the spelling of a statement into a buffer answers, and what it leaves there.
use Rattle.std.specs.Prelude.{◌≡◌, ℕ, true, cond, List, ◌++◌, length, take, drop, Some, None, Ok, Err, Option, Result, nat_lt}
use Rattle.statement.specs.declared.types.Fault.{Fault}
use Rattle.statement.specs.declared.types.Standing.{Standing}
use Rattle.statement.specs.Statements.{Said, allowed}
use Rattle.statement.specs.Views.{fault_number}
use Rattle.spelling.specs.declared.refusal.Unspelt.{Unspelt}
use Rattle.spelling.specs.declared.refusal.Unspelt.TheVariants as unspelt
use Rattle.spelling.specs.Laws.{Reads}
use Rattle.spelling.specs.Spelling.{code_of, spell, fault_of}

-- the number under which a statement is not spelt
abbrev pub unspelt_number : Unspelt → ℕ
unspelt_number (unspelt.Fault f) = fault_number f
unspelt_number unspelt.Room = 21

-- a fault comes first, then the want of room
abbrev pub unless_faulty : Option Fault → ℕ → ℕ → Result ℕ Unspelt
unless_faulty (Some f) size room = Err (unspelt.Fault f)
unless_faulty None size room = cond (nat_lt room size) (Err unspelt.Room) (Ok size)

abbrev pub spell_answer : Said → ℕ → Result ℕ Unspelt
spell_answer s room = unless_faulty (fault_of s) (length (spell s)) room

-- bytes over the front of others
abbrev pub over_front : List ℕ → List ℕ → List ℕ
over_front new old = new ++ drop (length new) old

-- a refusal leaves the buffer as it was
abbrev pub spelled : Result ℕ Unspelt → List ℕ → List ℕ → List ℕ
spelled (Ok n) new old = over_front new old
spelled (Err e) new old = old

-- what was spelt reads as the statement wherever that is allowed
abbrev pub ReadsAs : Result ℕ Unspelt → List ℕ → Said → Type 0
ReadsAs (Ok n) bs s = (st : Standing) → allowed st (code_of s) ≡ true → Reads st (take n bs) s
ReadsAs (Err e) bs s = Unit {0}
