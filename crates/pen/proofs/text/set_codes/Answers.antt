use Rattle.std.proofs.Common.{sym, ◌∙◌}
use Rattle.std.proofs.lemmas.Result.{err_from_is_err_and}
use Rattle.pen.proofs.Letters.{goes_on, breaks_off, ends}
use Rattle.pen.proofs.text.set_codes.Goals as goal

pub returns-in_err-set_code-clause-after : goal.returns-in_err-set_code-clause-after
returns-in_err-set_code-clause-after g c i =
    let p = err_from_is_err_and c.from_residual.result c.from_residual.ensures.1 in
    rw (p.1, p.2) (sym (c.loop-code.invariant.after i ∙ breaks_off _ _ _ _ c.loop-code-test.true (c.in_err-set_code.ensures.after i)))

pub loop-code-preserved : goal.loop-code-preserved
loop-code-preserved g c = record {
  after = λ i. c.loop-code.invariant.after i ∙ goes_on _ _ _ _ c.loop-code-test.true (c.in_ok-set_code.ensures.after i);
  tied = c.in_ok-set_code.ensures.tied ∙ c.loop-code.invariant.tied;
}

pub returns-clause-after : goal.returns-clause-after
returns-clause-after g c i = sym (c.loop-code.invariant.after i ∙ ends _ _ _ _ c.loop-code-test.false)
