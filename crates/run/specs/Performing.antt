-- What performing a statement does, calls and their bodies included.
use Rattle.std.specs.Prelude.{ℕ, zero, suc, ◌+◌, Bool, true, false, cond, ◌&&◌, ◌||◌, List, [], ◌∷◌, ◌++◌, length, ℤ, Some, None, Option, ◌==◌, nat_le}
use Rattle.geometry.specs.declared.field.Point.{Point}
use Rattle.mark.specs.declared.LineMode.{LineMode}
use Rattle.mark.specs.declared.LineMode.TheVariants as mode
use Rattle.statement.specs.declared.layout.Trace.{Trace}
use Rattle.statement.specs.declared.layout.Trace.TheVariants as trace
use Rattle.statement.specs.declared.layout.Setting.{Setting}
use Rattle.statement.specs.declared.layout.Setting.TheVariants as setting
use Rattle.statement.specs.declared.types.Fault.TheVariants as unread
use Rattle.statement.specs.declared.types.Header.{Header}
use Rattle.statement.specs.declared.types.Header.TheVariants as header
use Rattle.statement.specs.declared.types.Home.TheVariants as home
use Rattle.statement.specs.declared.types.Standing.{Standing}
use Rattle.statement.specs.declared.types.Standing.TheVariants.{Definition}
use Rattle.statement.specs.Statements.{CallTail, empty, coded, Plain, null, travel, letters, escape, assign, mark, movemk, drawmk, Act, plain, call, erase, endpic, subhed, subend, act}
use Rattle.statement.specs.Reading.{Shape, more, refused, whole, reading}
use Rattle.run.specs.declared.types.Fault.{Fault}
use Rattle.run.specs.declared.types.Fault.TheVariants as fault
use Rattle.run.specs.declared.types.Spot.{Spot}
use Rattle.run.specs.Inks.{Ink, Drawn, good, stopped, point, origin, beam_at, marks_as, mode_as, intensity_as, target, go}
use Rattle.run.specs.Texts.{set_text}

abbrev pub mode_of : ℕ → LineMode
mode_of v = cond (v == 1) mode.Dashed (cond (v == 2) mode.Dotted mode.Solid)

-- the mark stack takes 64 points
abbrev pub push_mark : Ink → Drawn
push_mark i = cond (nat_le 64 (length i.marks)) (stopped fault.MarksFull i) (good (marks_as (i.beam ∷ i.marks) i))

-- to the top point of the mark stack, or to the origin if there is none
abbrev pub recall : Trace → List Point → Ink → Drawn
recall t [] i = go t origin i
recall t (p ∷ ps) i = go t p (marks_as ps i)

abbrev pub set_mode : Setting → ℕ → Ink → Ink
set_mode setting.LineMode v i = mode_as (mode_of v) i
set_mode setting.Intensity v i = intensity_as v i

-- what a statement other than a call does
abbrev pub effect : Plain → Ink → Drawn
effect null i = good i
effect (travel t a x y) i = go t (target a x y i.beam) i
effect (letters m t) i = set_text m t i
effect (escape v t) i = good i
effect (assign s v) i = good (set_mode s v i)
effect mark i = push_mark i
effect movemk i = recall trace.Blank i.marks i
effect drawmk i = recall trace.Line i.marks i

-- a call moves the beam to its AT point, if it has one
abbrev pub arrive_at : Option (ℤ × ℤ) → Ink → Ink
arrive_at None i = i
arrive_at (Some p) i = beam_at (point p.0 p.1) i

abbrev pub arrive : CallTail → Ink → Ink
arrive empty i = i
arrive (coded a p) i = arrive_at p i

-- a fault, with the spot of its statement
pub record Trouble : Type 0 where
  pub fault : Fault
  pub spot : Spot

-- what performing leaves, with the statement count
pub record Out : Type 0 where
  pub ink : Ink
  pub count : ℕ
  pub refusal : Option Trouble

abbrev pub done : Ink → ℕ → Out
done i k = record { ink = i; count = k; refusal = None }

abbrev pub failed : Fault → Spot → Ink → ℕ → Out
failed f s i k = record { ink = i; count = k; refusal = Some (record { fault = f; spot = s }) }

abbrev pub trouble_at : Spot → Option Fault → Option Trouble
trouble_at s None = None
trouble_at s (Some f) = Some (record { fault = f; spot = s })

abbrev pub out_of : Spot → Drawn → ℕ → Out
out_of s d k = record { ink = d.ink; count = k; refusal = trouble_at s d.refusal }

-- what comes after, unless there was a refusal
abbrev pub after_refusal : Option Trouble → Out → (Ink → ℕ → Out) → Out
after_refusal None o f = f o.ink o.count
after_refusal (Some e) o f = o

abbrev pub after : Out → (Ink → ℕ → Out) → Out
after o f = after_refusal o.refusal o f

-- a picture has at most 65,536 statements; each that passes this is counted
abbrev pub counted : Spot → (Ink → ℕ → Out) → Ink → ℕ → Out
counted s f i k = cond (nat_le 65536 k) (failed fault.TooMany s i k) (f i (k + 1))

-- a definition that has ended
pub record Entry : Type 0 where
  pub name : List ℕ
  pub header : Header
  pub body : List ℕ

-- the same bytes
abbrev pub same_bytes : List ℕ → List ℕ → Bool
same_bytes [] [] = true
same_bytes [] (b ∷ bs) = false
same_bytes (a ∷ as') [] = false
same_bytes (a ∷ as') (b ∷ bs) = a == b && same_bytes as' bs

-- the entry of a name, if there is one
abbrev pub find : List Entry → List ℕ → Option Entry
find [] n = None
find (e ∷ es) n = cond (same_bytes e.name n) (Some e) (find es n)

abbrev pub is_among : List ℕ → List (List ℕ) → Bool
is_among n [] = false
is_among n (o ∷ os) = same_bytes o n || is_among n os

-- simple calls want header bit 80 hex
abbrev pub is_simple : Header → Bool
is_simple header.Simple = true
is_simple header.Full = false
is_simple header.Both = true

-- bodies are read as definitions are
abbrev pub in_body : Standing
in_body = Definition home.Outside

abbrev pub spot_at : ℕ → ℕ → Spot
spot_at j o = record { calls = j; offset = o }

-- a body, statement by statement, where j calls are open: the offset of the statement begun, and its bytes so far
abbrev pub on_play : (ℕ → Act → Ink → ℕ → Out) → (ℕ → List ℕ → Ink → ℕ → Out) → ℕ → ℕ → List ℕ → Ink → ℕ → Shape → Out
on_play f w j o h i k more = w o h i k
on_play f w j o h i k (refused e) = failed (fault.Read e) (spot_at j o) i k
on_play f w j o h i k (whole erase) = failed (fault.Read unread.Misplaced) (spot_at j o) i k
on_play f w j o h i k (whole endpic) = failed (fault.Read unread.Misplaced) (spot_at j o) i k
on_play f w j o h i k (whole (subhed n d)) = failed (fault.Read unread.Misplaced) (spot_at j o) i k
on_play f w j o h i k (whole subend) = failed (fault.Read unread.Misplaced) (spot_at j o) i k
on_play f w j o h i k (whole (act a)) = after (f o a i k) (w (o + length h) [])

abbrev pub play : (ℕ → Act → Ink → ℕ → Out) → ℕ → List ℕ → ℕ → List ℕ → Ink → ℕ → Out
play f j [] o held i k = done i k
play f j (b ∷ bs) o held i k = on_play f (play f j bs) j o (held ++ (b ∷ [])) i k (reading in_body (held ++ (b ∷ [])))

-- a name that has no entry draws nothing and opens no call
abbrev pub called : Spot → (List ℕ → Ink → ℕ → Out) → Option Entry → Ink → ℕ → Out
called s f None i k = done i k
called s f (Some e) i k = cond (is_simple e.header) (f e.body i k) (failed fault.NotCallable s i k)

abbrev pub acted : (Spot → List ℕ → List ℕ → Ink → ℕ → Out) → List Entry → Spot → Act → Ink → ℕ → Out
acted f T s (plain p) i k = out_of s (effect p i) k
acted f T s (call n t) i k = called s (f s n) (find T n) (arrive t i) k

-- a call of the name n at the spot s, where the names ns are open and d calls more may be
abbrev pub bodies : ℕ → List Entry → List (List ℕ) → Spot → List ℕ → List ℕ → Ink → ℕ → Out
bodies zero T ns s n body i k = cond (is_among n ns) (failed fault.AlreadyOpen s i k) (failed fault.TooDeep s i k)
bodies (suc d) T ns s n body i k =
    cond (is_among n ns) (failed fault.AlreadyOpen s i k)
    (play
    (λ o a. counted (spot_at (length (ns ++ (n ∷ []))) o) (acted (bodies d T (ns ++ (n ∷ []))) T (spot_at (length (ns ++ (n ∷ []))) o) a))
    (length (ns ++ (n ∷ []))) body 0 [] i k)

-- a statement at the offset o of the innermost body, where the names ns are open and d calls more may be
abbrev pub perform : ℕ → List Entry → List (List ℕ) → ℕ → Act → Ink → ℕ → Out
perform d T ns o a = counted (spot_at (length ns) o) (acted (bodies d T ns) T (spot_at (length ns) o) a)

-- a statement of the stream itself: eight calls may be open
abbrev pub perform_top : List Entry → Act → Ink → ℕ → Out
perform_top T a = perform 8 T [] 0 a
