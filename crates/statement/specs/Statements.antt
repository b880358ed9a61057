-- What a statement says, its names and texts as lists of bytes, and where it may stand.
use Rattle.std.specs.Prelude.{ℕ, ◌-◌, Bool, cond, not, ◌||◌, List, [], ◌∷◌, ℤ, Some, None, Option, ◌==◌}
use Rattle.statement.specs.declared.layout.Trace.{Trace}
use Rattle.statement.specs.declared.layout.Trace.TheVariants as trace
use Rattle.statement.specs.declared.layout.Aim.{Aim}
use Rattle.statement.specs.declared.layout.Aim.TheVariants as aim
use Rattle.statement.specs.declared.layout.Manner.{Manner}
use Rattle.statement.specs.declared.layout.Manner.TheVariants as manner
use Rattle.statement.specs.declared.layout.Setting.{Setting}
use Rattle.statement.specs.declared.layout.Setting.TheVariants as setting
use Rattle.statement.specs.declared.layout.Bare.{Bare}
use Rattle.statement.specs.declared.layout.Bare.TheVariants as bare
use Rattle.statement.specs.declared.layout.Layout.{Layout}
use Rattle.statement.specs.declared.layout.Layout.TheVariants as layout
use Rattle.statement.specs.declared.types.Header.{Header}
use Rattle.statement.specs.declared.types.Home.{Home}
use Rattle.statement.specs.declared.types.Home.TheVariants as home
use Rattle.statement.specs.declared.types.Standing.{Standing}
use Rattle.statement.specs.declared.types.Standing.TheVariants.{Outside, Picture, Definition}

-- the tail of a call: no byte, or a code byte with an AS name and an AT point where it says so
pub data CallTail : Type 0 where
  empty : CallTail
  coded : Option (List ℕ) → Option (ℤ × ℤ) → CallTail

-- what only moves the beam, marks the sheet or sets a mode
pub data Plain : Type 0 where
  null : Plain
  travel : Trace → Aim → ℤ → ℤ → Plain
  letters : Manner → List ℕ → Plain
  escape : ℕ → List ℕ → Plain
  assign : Setting → ℕ → Plain
  mark : Plain
  movemk : Plain
  drawmk : Plain

-- what is performed in a picture, and recorded in a definition
pub data Act : Type 0 where
  plain : Plain → Act
  call : List ℕ → CallTail → Act

-- what a statement says
pub data Said : Type 0 where
  erase : Said
  endpic : Said
  subhed : List ℕ → Header → Said
  subend : Said
  act : Act → Said

-- a statement that is a code alone
abbrev pub alone : Bare → Said
alone bare.Null = act (plain null)
alone bare.Erase = erase
alone bare.Endpic = endpic
alone bare.Subend = subend
alone bare.Mark = act (plain mark)
alone bare.Movemk = act (plain movemk)
alone bare.Drawmk = act (plain drawmk)

-- codes 0 to 20, in their order
abbrev pub layouts : List Layout
layouts =
    layout.Bare bare.Null ∷ layout.Bare bare.Erase
    ∷ layout.Pair trace.Blank aim.Absolute ∷ layout.Pair trace.Blank aim.Relative
    ∷ layout.Pair trace.Line aim.Absolute ∷ layout.Pair trace.Line aim.Relative
    ∷ layout.Pair trace.Dot aim.Absolute ∷ layout.Pair trace.Dot aim.Relative
    ∷ layout.Text manner.Onward ∷ layout.Text manner.Restoring
    ∷ layout.Bare bare.Endpic ∷ layout.Escape
    ∷ layout.Value setting.LineMode ∷ layout.Value setting.Intensity
    ∷ layout.Text manner.Wrapping ∷ layout.Heading ∷ layout.Bare bare.Subend
    ∷ layout.Calling ∷ layout.Bare bare.Mark ∷ layout.Bare bare.Movemk ∷ layout.Bare bare.Drawmk ∷ []

-- the item at a place of a list, if there is one
abbrev pub item : {A : Type 0} → List A → ℕ → Option A
item [] i = None
item (x ∷ xs) i = cond (i == 0) (Some x) (item xs (i - 1))

-- what follows a code, if there is such a code
abbrev pub layout_of : ℕ → Option Layout
layout_of c = item layouts c

-- which codes may come where: 1 ERASE, 10 ENDPIC, 15 SUBHED, 16 SUBEND
abbrev pub allowed : Standing → ℕ → Bool
allowed Outside c = c == 1 || c == 15
allowed Picture c = not (c == 1 || c == 16)
allowed (Definition h) c = not (c == 1 || (c == 10 || c == 15))

-- where the end of a definition leads back to
abbrev pub homeward : Home → Standing
homeward home.Outside = Outside
homeward home.Picture = Picture

abbrev pub returning : Standing → Standing
returning Outside = Outside
returning Picture = Picture
returning (Definition h) = homeward h

-- where a definition begun here leads back to
abbrev pub home_of : Standing → Home
home_of Outside = home.Outside
home_of Picture = home.Picture
home_of (Definition h) = h

-- where one stands after a statement
abbrev pub onwards : Standing → Said → Standing
onwards st erase = Picture
onwards st endpic = Outside
onwards st (subhed n h) = Definition (home_of st)
onwards st subend = returning st
onwards st (act a) = st
