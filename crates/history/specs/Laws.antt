-- The laws of writing.
use Rattle.std.specs.Prelude.{◌≡◌, ℕ, ◌+◌, ◌≤◌, List, [], ◌∷◌, ◌++◌, length, take, drop, Some, None, Ok, Err, Option, Result}
use Rattle.statement.specs.declared.types.Standing.TheVariants.{Outside}
use Rattle.statement.specs.Statements.{Said, erase, endpic, subhed, subend, act}
use Rattle.spelling.specs.Spelling.{spell}
use Rattle.spelling.specs.Walking.{read_back}
use Rattle.spelling.specs.Laws.{Stand, recited}
use Rattle.history.specs.declared.operation.Operation.{Operation}
use Rattle.writer.specs.declared.types.Refusal.{Refusal}
use Rattle.history.specs.Tales.{named_after, accepted}

-- each body is at most 1,024 bytes; the number is how many the body has so far, where one is open
abbrev pub ShortBodies : Option ℕ → List Said → Type 0
ShortBodies b [] = Unit {0}
ShortBodies b (erase ∷ ss) = ShortBodies None ss
ShortBodies b (endpic ∷ ss) = ShortBodies None ss
ShortBodies b (subhed n h ∷ ss) = ShortBodies (Some 0) ss
ShortBodies b (subend ∷ ss) = ShortBodies None ss
ShortBodies None (act a ∷ ss) = ShortBodies None ss
ShortBodies (Some k) (act a ∷ ss) = (k + length (spell (act a)) ≤ 1024) × ShortBodies (Some (k + length (spell (act a)))) ss

-- the names that statements define, each once, with those defined before
abbrev pub defined : List (List ℕ) → List Said → List (List ℕ)
defined ns [] = ns
defined ns (s ∷ ss) = defined (named_after s ns) ss

-- what is accepted is lawful where it stands
abbrev pub AcceptsLawful : Type 0
AcceptsLawful = (n : ℕ) (ops : List Operation) → Stand Outside (accepted n ops)

-- what is accepted keeps the limits on bodies and names
abbrev pub AcceptsWithinLimits : Type 0
AcceptsWithinLimits = (n : ℕ) (ops : List Operation) → ShortBodies None (accepted n ops) × (length (defined [] (accepted n ops)) ≤ 32)

-- bytes over the front of others; a refusal leaves them
abbrev pub over_front : Result ℕ Refusal → List ℕ → List ℕ → List ℕ
over_front (Ok n) new old = new ++ drop (length new) old
over_front (Err e) new old = old

-- what was written reads back as these statements, and nothing is refused
abbrev pub ReadsBack : Result ℕ Refusal → List ℕ → List Said → Type 0
ReadsBack (Ok n) bs ss = read_back (take n bs) ≡ recited ss
ReadsBack (Err e) bs ss = Unit {0}
