-- What a reader's fields mean.
use Rattle.std.specs.Prelude.{◌≡◌, ℕ, Bool, true, List, [], Ok, Err, Result}
use Rattle.sheet.specs.Meanings.{Meaning}
use Rattle.pen.specs.Views.{ink_of}
use Rattle.run.specs.declared.types.Refusal.{Refusal}
use Rattle.run.specs.declared.types.Life.{Life}
use Rattle.run.specs.declared.types.Life.TheVariants.{Live, Refused}
use Rattle.run.specs.Runs.{Stance, Drawing, Config, Turn}
use Rattle.calls.specs.declared.types.Failure.{Failure}
use Rattle.calls.specs.Tables.{entries_of, entry_of}
use Rattle.reader.specs.declared.state.State.{State}
use Rattle.reader.specs.declared.settle.Settled.{Settled}
use Rattle.reader.specs.declared.settle.Settled.TheVariants.{More, Done}
use Rattle.reader.specs.declared.reader.Reader.{Reader}
use Rattle.reader.specs.Held.{bytes_held}
use Rattle.reader.specs.Stances.{stance_of}

abbrev pub stance_in : State → Stance
stance_in w = stance_of w.standing (entry_of w.draft)

abbrev pub drawing_of : Life → List ℕ → State → Meaning → Drawing
drawing_of l h w m = record {
  life = l;
  held = h;
  stance = stance_in w;
  pictures = w.pictures;
  ink = ink_of w.work.pen m;
  table = entries_of w.table;
}

-- the life that an answer leaves
abbrev pub life_by : Result (Unit {0}) Refusal → Life
life_by (Ok u) = Live
life_by (Err e) = Refused e

-- the answer to a statement of the stream whose code stands at a place
abbrev pub placed : ℕ → Result (Unit {0}) Failure → Result (Unit {0}) Refusal
placed at (Ok u) = Ok u
placed at (Err f) = Err (record { fault = f.fault; place = at; spot = f.spot })

-- after a whole statement
abbrev pub turn_of : Result (Unit {0}) Refusal → State → Meaning → Turn
turn_of r w m = record { drawing = drawing_of (life_by r) [] w m; count = w.work.count }

-- the life and the bytes held after one byte more
abbrev pub life_at : Result Settled Refusal → Life
life_at (Ok t) = Live
life_at (Err e) = Refused e

abbrev pub held_at : Result Settled Refusal → List ℕ → List ℕ
held_at (Ok More) bs = bs
held_at (Ok Done) bs = []
held_at (Err e) bs = []

-- after one byte more
abbrev pub settled_as : Result Settled Refusal → List ℕ → State → Meaning → Turn
settled_as r bs w m = record { drawing = drawing_of (life_at r) (held_at r bs) w m; count = w.work.count }

-- where more bytes are wanted, this holds
abbrev pub Waiting : Result Settled Refusal → Bool → Type 0
Waiting (Ok More) t = t ≡ true
Waiting (Ok Done) t = Unit {0}
Waiting (Err e) t = Unit {0}

-- the whole state of a reader, with a sheet of this meaning
abbrev pub config_of : Reader → Meaning → Config
config_of r m = record { drawing = drawing_of r.life (bytes_held r.held) r.state m; read = r.read; count = r.state.work.count }
