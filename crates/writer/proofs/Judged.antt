-- What a passed asking says.
use Rattle.std.proofs.Common.{◌≡◌, ℕ, ◌+◌, ◌-◌, ◌<◌, ◌≤◌, Bool, true, false, not, leb, List, length, is_some, Some, None, Ok, Option, refl, ap, ◌∙◌, arith}
use Rattle.std.proofs.lemmas.Bool.{ltb-true, leb-true, not-true}
use Rattle.statement.specs.declared.types.Fault.{Fault}
use Rattle.statement.specs.declared.types.Fault.TheVariants as fault
use Rattle.statement.specs.Statements.{Said}
use Rattle.statement.specs.Reading.{is_name, header_of}
use Rattle.spelling.specs.Spelling.{spell, first_of, unless, fault_of, Lawful}
use Rattle.spelling.proofs.Spelt.{neither}
use Rattle.writer.specs.declared.types.Opened.{Opened}
use Rattle.writer.specs.Bodies.{stays_short}
use Rattle.writer.specs.Names.{is_one_too_many}
use Rattle.writer.specs.Answers.{judged, leaves_one, frames, writing_fault, write_answer, heading, heading_fault, definition_answer}

pub record Passes (f : Option Fault) (fits free : Bool) : Type 0 where
  pub faultless : f ≡ None
  pub within : fits ≡ true
  pub left : free ≡ true

pub passes : (f : Option Fault) (fits free : Bool) → judged f fits free ≡ Ok tt → Passes f fits free
passes (Some f) fits free e = let z : ◌≡◌ {A = ℕ} 0 1 = cc in absurd (omega arith)
passes None true true e = record { faultless = refl; within = refl; left = refl }
passes None true false e = let z : ◌≡◌ {A = ℕ} 0 1 = cc in absurd (omega arith)
passes None false free e = let z : ◌≡◌ {A = ℕ} 0 1 = cc in absurd (omega arith)

pub room_for : (used size : ℕ) (s : Said) → leaves_one used size s ≡ true → used + length (spell s) < size
room_for used size s e = omega (arith, ltb-true (length (spell s)) (size - used) e)

-- a statement that may be written
pub record Writes (o : Opened) (used size : ℕ) (s : Said) : Type 0 where
  pub unframed : frames s ≡ false
  pub lawful : Lawful s
  pub short : stays_short o used (length (spell s)) ≡ true
  pub free : used + length (spell s) < size

pub writes : (o : Opened) (used size : ℕ) (s : Said) → write_answer o used size s ≡ Ok tt → Writes o used size s
writes o used size s e =
    let p = passes (writing_fault s) (stays_short o used (length (spell s))) (leaves_one used size s) e in
    let q = neither (not (frames s)) fault.Misplaced (fault_of s) p.faultless in
    record { unframed = not-true (frames s) q.0; lawful = q.1; short = p.within; free = room_for used size s p.left }

-- a definition that may be opened
pub record Heads (ns : List (List ℕ)) (used size : ℕ) (n : List ℕ) (h : ℕ) : Type 0 where
  pub brief : length n ≤ 8
  pub lawful : Lawful (heading n h)
  pub known : is_one_too_many ns n ≡ false
  pub free : used + length (spell (heading n h)) < size

pub heads : (ns : List (List ℕ)) (used size : ℕ) (n : List ℕ) (h : ℕ) → definition_answer ns used size n h ≡ Ok tt → Heads ns used size n h
heads ns used size n h e =
    let p = passes (heading_fault n h) (not (is_one_too_many ns n)) (leaves_one used size (heading n h)) e in
    let q = neither (leb (length n) 8) fault.TooLong (first_of (unless (is_some (header_of h)) fault.WrongLayout) (unless (is_name n) fault.WrongCharacter)) p.faultless in
    let r = neither (is_some (header_of h)) fault.WrongLayout (unless (is_name n) fault.WrongCharacter) q.1 in
    record {
      brief = leb-true (length n) 8 q.0;
      lawful = ap (λ b. first_of (unless b fault.TooLong) (unless (is_name n) fault.WrongCharacter)) q.0 ∙ r.1;
      known = not-true (is_one_too_many ns n) p.within;
      free = room_for used size (heading n h) p.left;
    }
