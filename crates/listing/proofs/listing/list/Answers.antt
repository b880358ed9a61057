use Rattle.std.proofs.Common.{[], ◌∷◌, ◌++◌, sym, ap, ◌∙◌}
use Rattle.statement.specs.declared.types.Standing.TheVariants.{Outside}
use Rattle.statement.specs.Statements.{onwards}
use Rattle.walking.specs.Stories.{told_by}
use Rattle.listing.specs.Lines.{line_of}
use Rattle.listing.proofs.Listed.{after_more, lines_more}
use Rattle.listing.proofs.listing.list.Goals as goal

-- one more statement is told, and has its line
pub loop-placed-preserved : goal.loop-placed-preserved
loop-placed-preserved c =
    let i = c.loop-placed.invariant.1 in
    let t = told_by c.in-Ok.placed in
    let step = c.in-Ok.ensures.step i.0 in (
      cc,
      (
        i.0 ++ (t ∷ []),
        sym (rw c.loop-placed.invariant.0 at step) ∙ i.1,
        c.in-Ok.ensures.moved.1 ∙ ap (λ z. onwards z t.said) i.2 ∙ sym (after_more Outside i.0 t),
        c.in_ok-put_line-in-Ok.ensures ∙ (λ k. i.3 k ++ (line_of (i.2 k) t ++ (10 ∷ []))) ∙ sym (lines_more Outside i.0 t),
      ),
    )
