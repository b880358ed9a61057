-- Acts may stand in pictures and in definitions.
use Rattle.std.proofs.Common.{◌≡◌, true, refl}
use Rattle.statement.specs.declared.layout.Trace.TheVariants as trace
use Rattle.statement.specs.declared.layout.Aim.TheVariants as aim
use Rattle.statement.specs.declared.layout.Manner.TheVariants as manner
use Rattle.statement.specs.declared.layout.Setting.TheVariants as setting
use Rattle.statement.specs.declared.types.Home.{Home}
use Rattle.statement.specs.declared.types.Standing.TheVariants.{Picture, Definition}
use Rattle.statement.specs.Statements.{null, travel, letters, escape, assign, mark, movemk, drawmk, Act, plain, call, act, allowed}
use Rattle.spelling.specs.Spelling.{code_of}

pub act_allowed : (h : Home) (a : Act) → (allowed Picture (code_of (act a)) ≡ true) × (allowed (Definition h) (code_of (act a)) ≡ true)
act_allowed h (plain null) = (refl, refl)
act_allowed h (plain (travel trace.Blank aim.Absolute x y)) = (refl, refl)
act_allowed h (plain (travel trace.Blank aim.Relative x y)) = (refl, refl)
act_allowed h (plain (travel trace.Line aim.Absolute x y)) = (refl, refl)
act_allowed h (plain (travel trace.Line aim.Relative x y)) = (refl, refl)
act_allowed h (plain (travel trace.Dot aim.Absolute x y)) = (refl, refl)
act_allowed h (plain (travel trace.Dot aim.Relative x y)) = (refl, refl)
act_allowed h (plain (letters manner.Onward t)) = (refl, refl)
act_allowed h (plain (letters manner.Restoring t)) = (refl, refl)
act_allowed h (plain (letters manner.Wrapping t)) = (refl, refl)
act_allowed h (plain (escape v t)) = (refl, refl)
act_allowed h (plain (assign setting.LineMode v)) = (refl, refl)
act_allowed h (plain (assign setting.Intensity v)) = (refl, refl)
act_allowed h (plain mark) = (refl, refl)
act_allowed h (plain movemk) = (refl, refl)
act_allowed h (plain drawmk) = (refl, refl)
act_allowed h (call n t) = (refl, refl)
