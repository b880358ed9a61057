-- Definitions recorded and ended.
use Rattle.std.proofs.Common.{◌≡◌, ℕ, Bool, true, false, cond, List, [], ◌++◌, Some, None, Option, Ok, Err, Result, refl, ap, ◌∙◌}
use Rattle.std.specs.Option.{option_map}
use Rattle.std.specs.Result.{result_err}
use Rattle.sheet.specs.Meanings.{Meaning}
use Rattle.statement.specs.declared.types.Home.{Home}
use Rattle.statement.specs.declared.types.Home.TheVariants as home
use Rattle.statement.specs.declared.types.Standing.TheVariants.{Definition}
use Rattle.statement.specs.Statements.{homeward}
use Rattle.run.specs.declared.types.Fault.{Fault}
use Rattle.run.specs.declared.types.Fault.TheVariants as fault
use Rattle.run.specs.declared.types.Life.{Life}
use Rattle.run.specs.declared.types.Life.TheVariants.{Live, Refused}
use Rattle.run.specs.Performing.{Entry}
use Rattle.run.specs.Runs.{Stance, Turn, stance_as, refusing, recording, home_stance, keeps}
use Rattle.pen.specs.Views.{ink_of}
use Rattle.calls.specs.declared.types.Failure.{Failure}
use Rattle.calls.specs.Outcomes.{outside}
use Rattle.calls.specs.Tables.{entry_of, entries_of, longer, overflows}
use Rattle.reader.specs.declared.state.State.{State}
use Rattle.reader.specs.Stances.{stance_of, has_room, defining_as}
use Rattle.reader.specs.Views.{drawing_of, life_by, placed}

pub home_room : (w : Home) (n : List ℕ) (T : List Entry) → has_room (homeward w) n T ≡ true
home_room home.Outside n T = refl
home_room home.Picture n T = refl

home_stance_lem : (w : Home) (e : Entry) → stance_of (homeward w) e ≡ home_stance w
home_stance_lem home.Outside e = refl
home_stance_lem home.Picture e = refl

-- the life that an answer leaves, by what it refuses
abbrev life_from : ℕ → Option Failure → Life
life_from at None = Live
life_from at (Some f) = Refused (record { fault = f.fault; place = at; spot = f.spot })

life_by_err : (at : ℕ) (r : Result (Unit {0}) Failure) → life_by (placed at r) ≡ life_from at (result_err r)
life_by_err at (Ok u) = refl
life_by_err at (Err e) = refl

-- a statement was recorded in the draft, which is the entry e then, or was refused
module _ (w : State) (m : Meaning) (h : List ℕ) (home : Home) (bs : List ℕ) (at : ℕ) where
  abbrev left : Life → Stance → Turn
  left l s = keeps (record { life = l; held = []; stance = s; pictures = w.pictures; ink = ink_of w.work.pen m; table = entries_of w.table }) w.work.count

  abbrev choosing : Bool → Turn
  choosing t = keeps (cond t (refusing fault.NoRoom at (drawing_of Live h w m)) (stance_as (defining_as home (longer (entry_of w.draft) bs)) (drawing_of Live h w m))) w.work.count

  abbrev failure_by : Option Fault → Option Failure
  failure_by = option_map outside

  chosen : (t : Bool) → w.standing ≡ Definition home → left (life_from at (failure_by (cond t (Some fault.NoRoom) None))) (stance_of w.standing (cond t (entry_of w.draft) (longer (entry_of w.draft) bs))) ≡ choosing t
  chosen true g = refl
  chosen false g = ap (λ z. left Live (stance_of z (longer (entry_of w.draft) bs))) g

  pub recorded_as : (r : Result (Unit {0}) Failure) (f : Option Fault) (e : Entry) → result_err r ≡ failure_by f → f ≡ cond (overflows (entry_of w.draft) bs) (Some fault.NoRoom) None
      → e ≡ cond (overflows (entry_of w.draft) bs) (entry_of w.draft) (longer (entry_of w.draft) bs) → w.standing ≡ Definition home
      → left (life_by (placed at r)) (stance_of w.standing e)
      ≡ keeps (recording home (entry_of w.draft).name w.draft.header ((entry_of w.draft).body ++ bs) at (drawing_of Live h w m)) w.work.count
  recorded_as r f e p q s g =
      ap (λ z. left z (stance_of w.standing e)) (life_by_err at r ∙ ap (life_from at) (p ∙ ap failure_by q))
      ∙ ap (λ z. left (life_from at (failure_by (cond (overflows (entry_of w.draft) bs) (Some fault.NoRoom) None))) (stance_of w.standing z)) s
      ∙ chosen (overflows (entry_of w.draft) bs) g
