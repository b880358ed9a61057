-- Reading a stream back: its statements with their places, or the refusal with its place. Nothing is performed.
use Rattle.std.specs.Prelude.{ℕ, ◌+◌, ◌-◌, cond, List, [], ◌∷◌, ◌++◌, length, Some, None, fold, Option, nat_le}
use Rattle.statement.specs.declared.types.Fault.{Fault}
use Rattle.statement.specs.declared.types.Fault.TheVariants as fault
use Rattle.statement.specs.declared.types.Standing.{Standing}
use Rattle.statement.specs.declared.types.Standing.TheVariants.{Outside}
use Rattle.statement.specs.Statements.{Said, onwards}
use Rattle.statement.specs.Reading.{Shape, more, refused, whole, reading}

-- a statement, with the place of its code in the stream
pub record Told : Type 0 where
  pub place : ℕ
  pub said : Said

-- a refusal, with the place of the code of its statement
pub record Stopped : Type 0 where
  pub fault : Fault
  pub place : ℕ

-- how far the stream was read: where one stands, the unfinished statement's bytes, the statements told, the bytes read
pub record Walk : Type 0 where
  pub standing : Standing
  pub held : List ℕ
  pub told : List Told
  pub read : ℕ
  pub stop : Option Stopped

-- the longest stream
abbrev pub longest_stream : ℕ
longest_stream = 16777216

abbrev pub start : Walk
start = record { standing = Outside; held = []; told = []; read = 0; stop = None }

-- the place of the code of the statement that is being read, or of the next byte between statements
abbrev pub place_of : Walk → ℕ
place_of w = w.read - length w.held

abbrev pub stopping : Fault → ℕ → Walk → Walk
stopping f read w = record { standing = w.standing; held = w.held; told = w.told; read = read; stop = Some (record { fault = f; place = place_of w }) }

-- after one byte more, by what the bytes held now are
abbrev pub heeding : Walk → List ℕ → Shape → Walk
heeding w bs more = record { standing = w.standing; held = bs; told = w.told; read = w.read + 1; stop = None }
heeding w bs (refused f) = stopping f (w.read + 1) w
heeding w bs (whole s) = record {
  standing = onwards w.standing s;
  held = [];
  told = w.told ++ (record { place = place_of w; said = s } ∷ []);
  read = w.read + 1;
  stop = None;
}

-- the limit on a stream's length is looked at first; the byte that breaks it is not counted
abbrev pub going_on : Option Stopped → Walk → ℕ → Walk
going_on (Some e) w b = w
going_on None w b = cond (nat_le longest_stream w.read) (stopping fault.StreamTooLong w.read w) (heeding w (w.held ++ (b ∷ [])) (reading w.standing (w.held ++ (b ∷ []))))

abbrev pub walk_step : Walk → ℕ → Walk
walk_step w b = going_on w.stop w b

abbrev pub walk : Walk → List ℕ → Walk
walk w bs = fold walk_step w bs

-- the whole stream, read from outside
abbrev pub read_back : List ℕ → Walk
read_back bs = walk start bs
