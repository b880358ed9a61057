use Rattle.std.proofs.Common.{◌≡◌, drop}
use Rattle.run.specs.Inks.{Ink}
use Rattle.run.specs.Texts.{set_codes}
use Rattle.pen.specs.Views.{lit}
use Rattle.pen.proofs.text.set_codes.Given as goal

abbrev pub invariant-loop-code : goal.invariant-loop-code
invariant-loop-code g l = record {
  after : (i : Ink) → set_codes l.manner l.codes (lit i l.initial.beam l.intensity (g.S.Sheet.meaning l.initial.sheet)) ≡ set_codes l.manner (drop l.code-index l.codes) (lit i l.beam l.intensity (g.S.Sheet.meaning l.sheet));
  tied : g.S.Sheet.tied l.sheet ≡ g.S.Sheet.tied l.initial.sheet;
}
