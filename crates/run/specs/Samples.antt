-- A stream with two calls, and the same stream with both written out.
use Rattle.std.specs.Prelude.{◌≡◌, ℕ, List, [], ◌∷◌, ◌++◌, pos}
use Rattle.run.specs.Inks.{point}
use Rattle.run.specs.Runs.{begun}
use Rattle.run.specs.Written.{Written, NotRefused}
use Rattle.run.specs.Worked.{blank_sheet, ran}

-- ERASE, and a definition of A: DOTR 10 0
abbrev pub defined : List ℕ
defined = 1 ∷ 15 ∷ 1 ∷ 65 ∷ 1 ∷ 0x80 ∷ 7 ∷ 0 ∷ 10 ∷ 0 ∷ 0 ∷ 16 ∷ []

-- a call of A at (5, 6), and what it is written out as
abbrev pub first_call : List ℕ
first_call = 17 ∷ 1 ∷ 65 ∷ 5 ∷ 0x40 ∷ 0 ∷ 5 ∷ 0 ∷ 6 ∷ []

abbrev pub first_out : List ℕ
first_out = 2 ∷ 0 ∷ 5 ∷ 0 ∷ 6 ∷ 7 ∷ 0 ∷ 10 ∷ 0 ∷ 0 ∷ []

-- another definition of A: MOVER 0 1; and one of B: a call of A, MARK
abbrev pub redefined : List ℕ
redefined = 15 ∷ 1 ∷ 65 ∷ 1 ∷ 0x80 ∷ 3 ∷ 0 ∷ 0 ∷ 0 ∷ 1 ∷ 16 ∷ 15 ∷ 1 ∷ 66 ∷ 1 ∷ 0xC0 ∷ 17 ∷ 1 ∷ 65 ∷ 0 ∷ 18 ∷ 16 ∷ []

-- a call of B, and what it is written out as, with the call of A in turn
abbrev pub second_call : List ℕ
second_call = 17 ∷ 1 ∷ 66 ∷ 1 ∷ 0 ∷ []

abbrev pub second_out : List ℕ
second_out = 3 ∷ 0 ∷ 0 ∷ 0 ∷ 1 ∷ 18 ∷ []

-- ENDPIC ends both
abbrev pub calling : List ℕ
calling = defined ++ (first_call ++ (redefined ++ (second_call ++ (10 ∷ []))))

abbrev pub written_out : List ℕ
written_out = defined ++ (first_out ++ (redefined ++ (second_out ++ (10 ∷ []))))

pub record Sample : Type 0 where
  pub related : Written (begun blank_sheet) calling written_out
  pub calling_stands : NotRefused (ran calling)
  pub written_stands : NotRefused (ran written_out)
  pub calling_beam : (ran calling).drawing.ink.beam ≡ point (pos 15) (pos 7)
  pub written_beam : (ran written_out).drawing.ink.beam ≡ point (pos 15) (pos 7)
  pub calling_count : (ran calling).count ≡ 6
  pub written_count : (ran written_out).count ≡ 4
