use Rattle.std.proofs.Common.{◌≡◌, eqb, length, sym, refl, ap, ◌∙◌, arith, length-drop, length-take}
use Rattle.std.specs.Option.{unwrap_or}
use Rattle.std.specs.List.{position_or_len}
use Rattle.composing.proofs.Cuts.{no_lines, next_cut, some_length, or_end}
use Rattle.composing.proofs.script.Script.next_line.Goals as goal

pub returns-then-is_empty : goal.returns-then-is_empty
returns-then-is_empty c = record { kept = refl; next = (no_lines c.args.self.now.rest.now (sym c.if-is_empty.ensures), refl, refl) }

pub returns : goal.returns
returns c =
    let t = c.args.self.now.rest.now in
    let long = some_length t (sym c.if-is_empty.ensures) in
    let end = c.unwrap_or-end.result in
    let at : end ≡ position_or_len (λ b. eqb b 10) t = c.unwrap_or-end.ensures ∙ ap (λ o. unwrap_or o (length t)) c.line_end.ensures ∙ or_end (λ b. eqb b 10) t in
    record {
      kept = refl;
      next = (
        next_cut t end c.min-after.result (sym c.if-is_empty.ensures) at c.min-after.ensures,
        refl,
        simp length-take (omega arith),
        simp (length-take, length-drop) (omega arith),
      );
    }
