-- A simple call may be written out: MOVEA to its AT point, if any, then the body, if any, that its name has at that moment.
use Rattle.std.specs.Prelude.{◌≡◌, ℕ, ◌<◌, Bool, true, false, List, [], ◌∷◌, ◌++◌, ℤ, Some, None, Option}
use Rattle.std.specs.List.{AllByRecursion}
use Rattle.sheet.specs.Meanings.{Meaning}
use Rattle.statement.specs.declared.layout.Trace.TheVariants.{Blank}
use Rattle.statement.specs.declared.layout.Aim.TheVariants.{Absolute}
use Rattle.statement.specs.Statements.{CallTail, empty, coded, Act, call, act}
use Rattle.spelling.specs.Spelling.{spell, Lawful}
use Rattle.run.specs.declared.types.Life.{Life}
use Rattle.run.specs.declared.types.Life.TheVariants.{Live, Closed, Refused}
use Rattle.run.specs.Performing.{Entry, find}
use Rattle.run.specs.Runs.{Config, step, run, begun}
use Rattle.run.specs.Cuttings.{Call, played, stream}
use Rattle.run.specs.Restated.{DrawingNow, travel_bytes}

-- MOVEA to a point, if there is one
abbrev pub move_to : Option (ℤ × ℤ) → List ℕ
move_to None = []
move_to (Some p) = travel_bytes Blank Absolute p.0 p.1

abbrev pub move_bytes : CallTail → List ℕ
move_bytes empty = []
move_bytes (coded a p) = move_to p

abbrev pub body_of : Option Entry → List ℕ
body_of None = []
body_of (Some e) = e.body

-- the body that a name has, if any
abbrev pub body_now : List Entry → List ℕ → List ℕ
body_now T n = body_of (find T n)

abbrev pub call_bytes : List ℕ → CallTail → List ℕ
call_bytes n t = spell (act (call n t))

-- the second is the first, whole statements of a body, with some of its calls written out, and of those in their bodies, and so on
pub data OpenedOut (T : List Entry) : List ℕ → List ℕ → Type 0 where
  nothing : OpenedOut T [] []
  kept : (a : Act) {xs ys : List ℕ} → Lawful (act a) → OpenedOut T xs ys → OpenedOut T (spell (act a) ++ xs) (spell (act a) ++ ys)
  opened : (n : List ℕ) (t : CallTail) {zs xs ys : List ℕ} → Lawful (act (call n t)) → OpenedOut T (body_now T n) zs → OpenedOut T xs ys
      → OpenedOut T (call_bytes n t ++ xs) ((move_bytes t ++ zs) ++ ys)

-- from c on, the second stream is the first with some of the calls in its pictures written out, their bodies as they are or written out in turn
pub data Written : Config → List ℕ → List ℕ → Type 0 where
  ends : {c : Config} → Written c [] []
  same : {c : Config} {b : ℕ} {xs ys : List ℕ} → Written (step c b) xs ys → Written c (b ∷ xs) (b ∷ ys)
  out : {c : Config} (n : List ℕ) (t : CallTail) {xs ys : List ℕ} → DrawingNow c.drawing → Lawful (act (call n t))
      → Written (run c (call_bytes n t)) xs ys → Written c (call_bytes n t ++ xs) ((move_bytes t ++ body_now c.drawing.table n) ++ ys)
  in_turn : {c : Config} (n : List ℕ) (t : CallTail) {zs xs ys : List ℕ} → DrawingNow c.drawing → Lawful (act (call n t))
      → OpenedOut c.drawing.table (body_now c.drawing.table n) zs
      → Written (run c (call_bytes n t)) xs ys → Written c (call_bytes n t ++ xs) ((move_bytes t ++ zs) ++ ys)

abbrev pub is_refused : Life → Bool
is_refused Live = false
is_refused Closed = false
is_refused (Refused f) = true

abbrev pub NotRefused : Config → Type 0
NotRefused c = is_refused c.drawing.life ≡ false

-- equal page, stock and beam
pub record SameDrawing (c e : Config) : Type 0 where
  pub page : c.drawing.ink.sheet.inked ≡ e.drawing.ink.sheet.inked
  pub stock : c.drawing.ink.sheet.stock ≡ e.drawing.ink.sheet.stock
  pub beam : c.drawing.ink.beam ≡ e.drawing.ink.beam

-- if neither stream is refused, every cutting of either, with or without a finish, from alike meanings, draws the same
abbrev pub WritesAlike : Type 0
WritesAlike =
    (m n : Meaning) (ks ls : List Call) → m ≡ n → AllByRecursion (λ b. b < 256) (stream ks) → Written (begun m) (stream ks) (stream ls)
    → NotRefused (run (begun m) (stream ks)) → NotRefused (run (begun n) (stream ls)) → SameDrawing (played m ks) (played n ls)
