-- A relative statement may be restated as the absolute one of the same point.
use Rattle.std.specs.Prelude.{◌≡◌, ℕ, true, ◌&&◌, List, [], ◌∷◌, ◌++◌, ℤ}
use Rattle.sheet.specs.Meanings.{Meaning}
use Rattle.statement.specs.declared.layout.Trace.{Trace}
use Rattle.statement.specs.declared.layout.Aim.{Aim}
use Rattle.statement.specs.declared.layout.Aim.TheVariants.{Absolute, Relative}
use Rattle.statement.specs.Statements.{travel, plain, act}
use Rattle.statement.specs.Reading.{lawful}
use Rattle.spelling.specs.Spelling.{spell}
use Rattle.run.specs.declared.types.Life.TheVariants.{Live}
use Rattle.run.specs.Inks.{point, target}
use Rattle.run.specs.Runs.{Drawing, Config, picture, step, run, begun}
use Rattle.run.specs.Cuttings.{Call, played, stream, finishes, SameOutcome}

-- live, in a picture outside definitions, between two statements: the next statement will be performed
pub record DrawingNow (d : Drawing) : Type 0 where
  pub is_live : d.life ≡ Live
  pub in_picture : d.stance ≡ picture
  pub between : d.held ≡ []

-- the bytes of MOVEA or MOVER, DRAWA or DRAWR, DOTA or DOTR
abbrev pub travel_bytes : Trace → Aim → ℤ → ℤ → List ℕ
travel_bytes t a x y = spell (act (plain (travel t a x y)))

-- from c on, the second stream is the first with some of its relative statements restated:
-- a lawful delta, from the beam, comes to a point (x, y) on the screen
pub data Restated : Config → List ℕ → List ℕ → Type 0 where
  ends : {c : Config} → Restated c [] []
  same : {c : Config} {b : ℕ} {xs ys : List ℕ} → Restated (step c b) xs ys → Restated c (b ∷ xs) (b ∷ ys)
  absolute : {c : Config} (t : Trace) (dx dy x y : ℤ) {xs ys : List ℕ} → DrawingNow c.drawing
      → (lawful Relative dx && lawful Relative dy) ≡ true → (lawful Absolute x && lawful Absolute y) ≡ true
      → target Relative dx dy c.drawing.ink.beam ≡ point x y
      → Restated (run c (travel_bytes t Relative dx dy)) xs ys
      → Restated c (travel_bytes t Relative dx dy ++ xs) (travel_bytes t Absolute x y ++ ys)

-- every cutting of either stream, with a finish in both or in neither, from alike meanings, comes to the same
abbrev pub RestatesAlike : Type 0
RestatesAlike =
    (m n : Meaning) (ks ls : List Call) → m ≡ n → Restated (begun m) (stream ks) (stream ls) → finishes ks ≡ finishes ls → SameOutcome (played m ks) (played n ls)
