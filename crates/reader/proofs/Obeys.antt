-- Statements obeyed by where a reader stands.
use Rattle.std.proofs.Common.{◌≡◌, ℕ, true, List, [], ◌++◌, sym, refl, ap, ◌∙◌}
use Rattle.sheet.specs.Meanings.{Meaning}
use Rattle.statement.specs.declared.types.Home.{Home}
use Rattle.statement.specs.declared.types.Standing.{Standing}
use Rattle.statement.specs.declared.types.Standing.TheVariants as standing
use Rattle.statement.specs.declared.types.Statement.{Statement}
use Rattle.statement.specs.Statements.{Said, erase, endpic, subhed, subend, act}
use Rattle.statement.specs.Views.{said_by}
use Rattle.run.specs.declared.types.Life.TheVariants.{Live}
use Rattle.run.specs.Runs.{Turn, taken, performed, keeps, recording}
use Rattle.pen.specs.Views.{ink_of}
use Rattle.calls.specs.Tables.{entry_of, entries_of}
use Rattle.calls.specs.Outcomes.{is_act, perform_said}
use Rattle.reader.specs.declared.state.State.{State}
use Rattle.reader.specs.Stances.{stance_of}
use Rattle.reader.specs.Views.{drawing_of}

module _ (w : State) (bytes : List ℕ) (at : ℕ) (h : List ℕ) (m : Meaning) where
  -- what a statement would come to, if the reader stood there
  abbrev pub obeyed_at : Standing → Said → Turn
  obeyed_at st s = taken (stance_of st (entry_of w.draft)) s bytes at (drawing_of Live h w m) w.work.count

  pub obeyed : (st : Standing) (s t : Statement) → w.standing ≡ st → s ≡ t → obeyed_at w.standing (said_by s) ≡ obeyed_at st (said_by t)
  obeyed st s t e f = ap (λ z. obeyed_at z (said_by s)) e ∙ ap (λ z. obeyed_at st (said_by z)) f

  act_in_picture : (s : Said) → is_act s ≡ true → performed at (drawing_of Live h w m) (perform_said 8 (entries_of w.table) [] 0 s (ink_of w.work.pen m) w.work.count) ≡ obeyed_at standing.Picture s
  act_in_picture erase e = absurd cc
  act_in_picture endpic e = absurd cc
  act_in_picture (subhed n d) e = absurd cc
  act_in_picture subend e = absurd cc
  act_in_picture (act a) e = refl

  pub performs : (s : Said) → w.standing ≡ standing.Picture → is_act s ≡ true
      → performed at (drawing_of Live h w m) (perform_said 8 (entries_of w.table) [] 0 s (ink_of w.work.pen m) w.work.count) ≡ obeyed_at w.standing s
  performs s e f = act_in_picture s f ∙ sym (ap (λ z. obeyed_at z s) e)

  act_in_definition : (home : Home) (s : Said) → is_act s ≡ true
      → keeps (recording home (entry_of w.draft).name w.draft.header ((entry_of w.draft).body ++ bytes) at (drawing_of Live h w m)) w.work.count ≡ obeyed_at (standing.Definition home) s
  act_in_definition home erase e = absurd cc
  act_in_definition home endpic e = absurd cc
  act_in_definition home (subhed n d) e = absurd cc
  act_in_definition home subend e = absurd cc
  act_in_definition home (act a) e = refl

  pub records : (home : Home) (s : Said) → w.standing ≡ standing.Definition home → is_act s ≡ true
      → keeps (recording home (entry_of w.draft).name w.draft.header ((entry_of w.draft).body ++ bytes) at (drawing_of Live h w m)) w.work.count ≡ obeyed_at w.standing s
  records home s e f = act_in_definition home s f ∙ sym (ap (λ z. obeyed_at z s) e)
