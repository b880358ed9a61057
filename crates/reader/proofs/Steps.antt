-- One byte more.
use Rattle.std.proofs.Common.{◌≡◌, ℕ, ◌+◌, ◌-◌, ◌<◌, ◌≤◌, Bool, cond, List, [], ◌∷◌, ◌++◌, length, Result, sym, refl, ap, ◌∙◌, arith}
use borrow.Author.Tests.{lt-leb}
use Rattle.sheet.specs.Meanings.{Meaning}
use Rattle.statement.specs.declared.types.Standing.{Standing}
use Rattle.statement.specs.declared.types.Standing.TheVariants as standing
use Rattle.statement.specs.Reading.{reading}
use Rattle.run.specs.declared.types.Life.{Life}
use Rattle.run.specs.declared.types.Life.TheVariants.{Live}
use Rattle.run.specs.declared.types.Refusal.{Refusal}
use Rattle.run.specs.Performing.{Entry}
use Rattle.run.specs.Runs.{Turn, Config, standing_of, step_live, step, heeding, reads, one_more, code_place, too_long}
use Rattle.reader.specs.declared.reader.Reader.{Reader}
use Rattle.reader.specs.Held.{bytes_held}
use Rattle.reader.specs.Stances.{stance_of}
use Rattle.reader.specs.Views.{drawing_of, settled_as, config_of}
use Rattle.reader.specs.declared.settle.Settled.{Settled}
use Rattle.reader.specs.declared.state.State.{State}
use Rattle.reader.proofs.Held.{few}
use Rattle.reader.proofs.Pictures.{few_pictures}
use Rattle.calls.specs.Tables.{entry_of}

stands : (st : Standing) (e : Entry) → standing_of (stance_of st e) ≡ st
stands standing.Outside e = refl
stands standing.Picture e = refl
stands (standing.Definition w) e = refl

-- there is room for one byte more
pub roomy : (r : Reader) → length (bytes_held r.held) ≤ 515
roomy r = few r.state.standing (bytes_held r.held) r.begun

-- the bytes held, with one more
abbrev pub grown : Reader → ℕ → List ℕ
grown r b = (bytes_held r.held) ++ b ∷ []

module _ (r : Reader) (m : Meaning) (b : ℕ) (live : r.life ≡ Live) where
  alive : step (config_of r m) b ≡ step_live Live (config_of r m) b
  alive = ap (λ l. step_live l (config_of r m) b) live

  choosing : Bool → Config
  choosing t = cond t (too_long (config_of r m)) (reads (r.read + 1) (one_more (code_place (config_of r m)) (config_of r m).drawing r.state.work.count b))

  -- by where one stands then
  heeded : Standing → Life → Turn
  heeded st l = heeding (grown r b) (reading st (grown r b)) (r.read - length (bytes_held r.held)) (drawing_of l (bytes_held r.held) r.state m) r.state.work.count

  pub one_more_byte : r.read < 16777216
      → step (config_of r m) b
      ≡ reads (r.read + 1) (heeding (grown r b) (reading r.state.standing (grown r b)) (r.read - length (bytes_held r.held)) (drawing_of Live (bytes_held r.held) r.state m) r.state.work.count)
  unfolding choosing heeded
  one_more_byte h =
      alive
      ∙ ap choosing (lt-leb 16777216 r.read h)
      ∙ ap (reads (r.read + 1)) (ap (λ st. heeded st r.life) (stands r.state.standing (entry_of r.state.draft)) ∙ ap (heeded r.state.standing) live)

-- what settling those bytes comes to
abbrev pub Settles : Reader → Meaning → ℕ → Result Settled Refusal → State → Meaning → Type 0
Settles r m b t w n = settled_as t (grown r b) w n ≡ heeding (grown r b) (reading r.state.standing (grown r b)) (r.read - length (bytes_held r.held)) (drawing_of Live (bytes_held r.held) r.state m) r.state.work.count

module _ (r : Reader) (m : Meaning) (b : ℕ) (t : Result Settled Refusal) (w : State) (n : Meaning) (settled : Settles r m b t w n) where
  pub one_picture : w.pictures ≤ r.read + 1
  one_picture =
      omega (arith, r.ended, ap (λ z. z.drawing.pictures) settled, few_pictures (grown r b) (reading r.state.standing (grown r b)) (r.read - length (bytes_held r.held)) (drawing_of Live (bytes_held r.held) r.state m) r.state.work.count)

  pub stepped : r.life ≡ Live → r.read < 16777216 → reads (r.read + 1) (settled_as t (grown r b) w n) ≡ step (config_of r m) b
  stepped live below = ap (reads (r.read + 1)) settled ∙ sym (one_more_byte r m b live below)

-- a reader after a byte, of this life and with these bytes held
abbrev pub after_byte : Reader → Life → List ℕ → State → Meaning → Config
after_byte r l h w n = record { drawing = drawing_of l h w n; read = r.read + 1; count = w.work.count }
