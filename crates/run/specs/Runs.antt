-- The run of a stream: byte by byte, from a new reader's state and a sheet's meaning.
use Rattle.std.specs.Prelude.{ℕ, ◌+◌, ◌-◌, Bool, true, false, cond, ◌&&◌, List, [], ◌∷◌, ◌++◌, length, Some, None, fold, Option, nat_le}
use Rattle.mark.specs.declared.LineMode.TheVariants as mode
use Rattle.sheet.specs.Meanings.{Meaning, cleared}
use Rattle.statement.specs.declared.types.Fault.TheVariants as unread
use Rattle.statement.specs.declared.types.Header.{Header}
use Rattle.statement.specs.declared.types.Home.{Home}
use Rattle.statement.specs.declared.types.Home.TheVariants as home
use Rattle.statement.specs.declared.types.Standing.{Standing}
use Rattle.statement.specs.declared.types.Standing.TheVariants as standing
use Rattle.statement.specs.Statements.{Said, erase, endpic, subhed, subend, act}
use Rattle.statement.specs.Reading.{Shape, more, refused, whole, reading}
use Rattle.spelling.specs.Walking.{longest_stream}
use Rattle.run.specs.declared.types.Fault.{Fault}
use Rattle.run.specs.declared.types.Fault.TheVariants as fault
use Rattle.run.specs.declared.types.Refusal.{Refusal}
use Rattle.run.specs.declared.types.Life.{Life}
use Rattle.run.specs.declared.types.Life.TheVariants.{Live, Closed, Refused}
use Rattle.run.specs.declared.types.Report.{Report}
use Rattle.run.specs.Inks.{Ink, origin}
use Rattle.run.specs.Performing.{Trouble, Out, Entry, same_bytes, find, spot_at, perform_top}

-- where a run stands; a definition keeps where it was begun, its name, its header and the bytes recorded so far
pub data Stance : Type 0 where
  outside : Stance
  picture : Stance
  defining : Home → List ℕ → Header → List ℕ → Stance

abbrev pub standing_of : Stance → Standing
standing_of outside = standing.Outside
standing_of picture = standing.Picture
standing_of (defining w n h bs) = standing.Definition w

-- what a run keeps and what its sheet means, but for the bytes read and the statement count
pub record Drawing : Type 0 where
  pub life : Life
  pub held : List ℕ
  pub stance : Stance
  pub pictures : ℕ
  pub ink : Ink
  pub table : List Entry

pub record Config : Type 0 where
  pub drawing : Drawing
  pub read : ℕ
  pub count : ℕ

-- after a whole statement
pub record Turn : Type 0 where
  pub drawing : Drawing
  pub count : ℕ

abbrev pub refusal_at : Fault → ℕ → Refusal
refusal_at f at = record { fault = f; place = at; spot = spot_at 0 0 }

abbrev pub holding : List ℕ → Drawing → Drawing
holding h d = record { life = d.life; held = h; stance = d.stance; pictures = d.pictures; ink = d.ink; table = d.table }

abbrev pub refusing : Fault → ℕ → Drawing → Drawing
refusing f at d = record { life = Refused (refusal_at f at); held = []; stance = d.stance; pictures = d.pictures; ink = d.ink; table = d.table }

abbrev pub stance_as : Stance → Drawing → Drawing
stance_as s d = record { life = d.life; held = []; stance = s; pictures = d.pictures; ink = d.ink; table = d.table }

-- ERASE: a cleared sheet, the beam at the origin, normal intensity, solid lines, no mark on the stack
abbrev pub blank : Ink → Ink
blank i = record { beam = origin; mode = mode.Solid; intensity = 128; marks = []; sheet = cleared i.sheet }

abbrev pub erased : Drawing → Drawing
erased d = record { life = d.life; held = []; stance = picture; pictures = d.pictures; ink = blank d.ink; table = d.table }

-- ENDPIC
abbrev pub ended : Drawing → Drawing
ended d = record { life = d.life; held = []; stance = outside; pictures = d.pictures + 1; ink = d.ink; table = d.table }

-- the entry takes the place of an earlier one of its name
abbrev pub store : Entry → List Entry → List Entry
store n [] = n ∷ []
store n (e ∷ es) = cond (same_bytes e.name n.name) (n ∷ es) (e ∷ store n es)

abbrev pub is_absent : Option Entry → Bool
is_absent None = true
is_absent (Some e) = false

-- there are 32 entries
abbrev pub is_full : List Entry → List ℕ → Bool
is_full T n = nat_le 32 (length T) && is_absent (find T n)

-- SUBHED
abbrev pub opening : Home → List ℕ → Header → ℕ → Drawing → Drawing
opening w n h at d = cond (is_full d.table n) (refusing fault.NoRoom at d) (stance_as (defining w n h []) d)

-- a statement of a definition is recorded; a body has at most 1,024 bytes
abbrev pub recording : Home → List ℕ → Header → List ℕ → ℕ → Drawing → Drawing
recording w n h bs at d = cond (nat_le 1025 (length bs)) (refusing fault.NoRoom at d) (stance_as (defining w n h bs) d)

abbrev pub home_stance : Home → Stance
home_stance home.Outside = outside
home_stance home.Picture = picture

-- SUBEND: the name has its new header and body
abbrev pub closing : Home → List ℕ → Header → List ℕ → Drawing → Drawing
closing w n h bs d = record { life = d.life; held = []; stance = home_stance w; pictures = d.pictures; ink = d.ink; table = store (record { name = n; header = h; body = bs }) d.table }

abbrev pub life_after : ℕ → Option Trouble → Life
life_after at None = Live
life_after at (Some t) = Refused (record { fault = t.fault; place = at; spot = t.spot })

abbrev pub ink_as : ℕ → Drawing → Ink → Option Trouble → Drawing
ink_as at d i r = record { life = life_after at r; held = []; stance = d.stance; pictures = d.pictures; ink = i; table = d.table }

abbrev pub performed : ℕ → Drawing → Out → Turn
performed at d o = record { drawing = ink_as at d o.ink o.refusal; count = o.count }

abbrev pub keeps : Drawing → ℕ → Turn
keeps d k = record { drawing = d; count = k }

abbrev pub misplaced_at : ℕ → Drawing → ℕ → Turn
misplaced_at at d k = keeps (refusing (fault.Read unread.Misplaced) at d) k

-- a whole statement of the bytes h, whose code stands at the place at
abbrev pub taken : Stance → Said → List ℕ → ℕ → Drawing → ℕ → Turn
taken outside erase h at d k = keeps (erased d) 0
taken outside endpic h at d k = misplaced_at at d k
taken outside (subhed n e) h at d k = keeps (opening home.Outside n e at d) k
taken outside subend h at d k = misplaced_at at d k
taken outside (act a) h at d k = misplaced_at at d k
taken picture erase h at d k = misplaced_at at d k
taken picture endpic h at d k = keeps (ended d) k
taken picture (subhed n e) h at d k = keeps (opening home.Picture n e at d) k
taken picture subend h at d k = misplaced_at at d k
taken picture (act a) h at d k = performed at d (perform_top d.table a d.ink k)
taken (defining w n e bs) erase h at d k = misplaced_at at d k
taken (defining w n e bs) endpic h at d k = misplaced_at at d k
taken (defining w n e bs) (subhed m f) h at d k = misplaced_at at d k
taken (defining w n e bs) subend h at d k = keeps (closing w n e bs d) k
taken (defining w n e bs) (act a) h at d k = keeps (recording w n e (bs ++ h) at d) k

-- after one byte more, by what the bytes held now are
abbrev pub heeding : List ℕ → Shape → ℕ → Drawing → ℕ → Turn
heeding h more at d k = keeps (holding h d) k
heeding h (refused f) at d k = keeps (refusing (fault.Read f) at d) k
heeding h (whole s) at d k = taken d.stance s h at d k

abbrev pub one_more : ℕ → Drawing → ℕ → ℕ → Turn
one_more at d k b = heeding (d.held ++ (b ∷ [])) (reading (standing_of d.stance) (d.held ++ (b ∷ []))) at d k

abbrev pub reads : ℕ → Turn → Config
reads r t = record { drawing = t.drawing; read = r; count = t.count }

-- the place of the code of the statement begun, or of the next byte between statements
abbrev pub code_place : Config → ℕ
code_place c = c.read - length c.drawing.held

abbrev pub too_long : Config → Config
too_long c = record { drawing = refusing (fault.Read unread.StreamTooLong) (code_place c) c.drawing; read = c.read; count = c.count }

-- the limit on a stream's length is looked at first
abbrev pub step_live : Life → Config → ℕ → Config
step_live Live c b = cond (nat_le longest_stream c.read) (too_long c) (reads (c.read + 1) (one_more (code_place c) c.drawing c.count b))
step_live Closed c b = c
step_live (Refused f) c b = c

abbrev pub step : Config → ℕ → Config
step c b = step_live c.drawing.life c b

-- the run of a stream
abbrev pub run : Config → List ℕ → Config
run c bs = fold step c bs

-- a new reader, and a sheet of this meaning
abbrev pub begun : Meaning → Config
begun m = record {
  drawing = record {
    life = Live;
    held = [];
    stance = outside;
    pictures = 0;
    ink = record { beam = origin; mode = mode.Solid; intensity = 128; marks = []; sheet = m };
    table = [];
  };
  read = 0;
  count = 0;
}

abbrev pub is_outside : Stance → Bool
is_outside outside = true
is_outside picture = false
is_outside (defining w n h bs) = false

abbrev pub is_empty : List ℕ → Bool
is_empty [] = true
is_empty (b ∷ bs) = false

abbrev pub living : Life → Drawing → Drawing
living l d = record { life = l; held = d.held; stance = d.stance; pictures = d.pictures; ink = d.ink; table = d.table }

-- a finish closes a live run that stands outside between statements
abbrev pub finish_live : Life → ℕ → Drawing → Drawing
finish_live Live r d = living (cond (is_outside d.stance && is_empty d.held) Closed (Refused (refusal_at fault.Unfinished r))) d
finish_live Closed r d = d
finish_live (Refused f) r d = d

abbrev pub finish : Config → Config
finish c = record { drawing = finish_live c.drawing.life c.read c.drawing; read = c.read; count = c.count }

abbrev pub report_of : Config → Report
report_of c = record { read = c.read; pictures = c.drawing.pictures; statements = c.count; beam = c.drawing.ink.beam; life = c.drawing.life }

-- the refusal that a life tells, if any
abbrev pub refusal_of : Life → Option Refusal
refusal_of Live = None
refusal_of Closed = None
refusal_of (Refused f) = Some f
