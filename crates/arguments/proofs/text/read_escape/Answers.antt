use Rattle.std.proofs.Common.{ℕ, List, ◌∷◌, sym, ap, ◌∙◌, subst, rules}
use Rattle.std.proofs.lemmas.Slice.{first_rest}
use Rattle.statement.specs.Reading.{escaping}
use Rattle.statement.specs.Views.{ReadingLies}
use Rattle.arguments.proofs.text.read_escape.Goals as goal

pub returns-in-len1-up : goal.returns-in-len1-up
returns-in-len1-up c =
    let e = first_rest c.args.rest.now 0 (search rules) in
    let r = c.escape_with in
    record {
      value = r.ensures.value ∙ ap escaping (sym e);
      parts = λ code. subst (λ (bs : List ℕ). ReadingLies r.result (code ∷ bs)) (sym e) (r.ensures.parts code);
      stands = r.ensures.stands;
    }
