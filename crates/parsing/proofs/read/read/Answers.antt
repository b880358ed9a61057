use Rattle.std.proofs.Common.{ℕ, List, sym, ap, ◌∙◌, subst, rules}
use Rattle.std.proofs.lemmas.Slice.{first_rest}
use Rattle.statement.specs.Reading.{reading}
use Rattle.statement.specs.Views.{ReadingLies}
use Rattle.parsing.proofs.read.read.Goals as goal

pub returns-in-len1-up : goal.returns-in-len1-up
returns-in-len1-up c =
    let e = sym (first_rest c.args.bytes.now 0 (search rules)) in
    let r = c.read_code in
    record {
      value = r.ensures.value ∙ ap (reading c.args.standing) e;
      parts = subst (λ (bs : List ℕ). ReadingLies r.result bs) e r.ensures.parts;
      stands = r.ensures.stands;
    }
