-- What performing leaves, and what stands in the way of a call.
use Rattle.std.specs.Prelude.{ℕ, Bool, true, false, cond, List, length, Some, None, Option, Result, nat_le}
use Rattle.std.specs.Option.{option_map}
use Rattle.std.specs.Result.{result_err}
use Rattle.sheet.specs.Meanings.{Meaning}
use Rattle.statement.specs.declared.types.Fault.TheVariants as unread
use Rattle.statement.specs.Statements.{Said, erase, endpic, subhed, subend, act}
use Rattle.run.specs.declared.types.Fault.{Fault}
use Rattle.run.specs.declared.types.Fault.TheVariants as fault
use Rattle.run.specs.Inks.{Ink}
use Rattle.run.specs.Performing.{Trouble, Out, Entry, failed, is_among, is_simple, spot_at, perform}
use Rattle.pen.specs.Views.{ink_of}
use Rattle.calls.specs.declared.types.Work.{Work}
use Rattle.calls.specs.declared.types.Failure.{Failure}

abbrev pub trouble_of : Failure → Trouble
trouble_of f = record { fault = f.fault; spot = f.spot }

-- a failure of a statement of the stream itself
abbrev pub outside : Fault → Failure
outside f = record { fault = f; spot = spot_at 0 0 }

abbrev pub leaves : Result (Unit {0}) Failure → Work → Meaning → Out
leaves r w m = record { ink = ink_of w.pen m; count = w.count; refusal = option_map trouble_of (result_err r) }

-- what is performed or recorded, and is not ERASE, ENDPIC, SUBHED or SUBEND
abbrev pub is_act : Said → Bool
is_act erase = false
is_act endpic = false
is_act (subhed n h) = false
is_act subend = false
is_act (act a) = true

-- what bars a statement where k were performed, if anything does
abbrev pub bar : Said → ℕ → Option Fault
bar s k = cond (is_act s) (cond (nat_le 65536 k) (Some fault.TooMany) None) (Some (fault.Read unread.Misplaced))

-- a statement at the offset o of the innermost body; one that is not performed is misplaced
abbrev pub perform_said : ℕ → List Entry → List (List ℕ) → ℕ → Said → Ink → ℕ → Out
perform_said d T ns o erase i k = failed (fault.Read unread.Misplaced) (spot_at (length ns) o) i k
perform_said d T ns o endpic i k = failed (fault.Read unread.Misplaced) (spot_at (length ns) o) i k
perform_said d T ns o (subhed n h) i k = failed (fault.Read unread.Misplaced) (spot_at (length ns) o) i k
perform_said d T ns o subend i k = failed (fault.Read unread.Misplaced) (spot_at (length ns) o) i k
perform_said d T ns o (act a) i k = perform d T ns o a i k

-- what stands in the way of a call of the name n where the names ns are open, if anything does
abbrev pub hindrance : Entry → List ℕ → List (List ℕ) → Option Fault
hindrance e n ns =
    cond (is_simple e.header)
    (cond (is_among n ns) (Some fault.AlreadyOpen) (cond (nat_le 8 (length ns)) (Some fault.TooDeep) None))
    (Some fault.NotCallable)
