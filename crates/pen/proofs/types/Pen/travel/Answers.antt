use Rattle.std.proofs.Common.{◌∙◌, rules}
use Rattle.std.proofs.lemmas.Result.{err_from_is_err_and}
use Rattle.run.specs.Inks.{target}
use Rattle.pen.proofs.Landings.{goes, strays}
use Rattle.pen.proofs.types.Pen.travel.Goals as goal

pub returns-in_err-end-clause-after : goal.returns-in_err-end-clause-after
returns-in_err-end-clause-after g c =
    let p = err_from_is_err_and c.from_residual.result c.from_residual.ensures.1 in
    rw (p.1, p.2) (strays (target c.args.aim c.args.x c.args.y c.args.self.now.beam) c.args.trace _ _ (search rules))

pub returns-clause-after : goal.returns-clause-after
returns-clause-after g c =
    c.travel_to.ensures.after ∙ goes (target c.args.aim c.args.x c.args.y c.args.self.now.beam) c.args.trace c.in_ok-end.end _ (search rules)
