use Rattle.std.proofs.Common.{take, drop, length, ap, ◌∙◌}
use Rattle.std.specs.Option.{unwrap_or}
use Rattle.wording.proofs.Fronts.{take_word, drop_word, space_or_end}
use Rattle.wording.proofs.split.split_word.Goals as goal

pub returns-clause-first : goal.returns-clause-first
returns-clause-first c =
    let t = c.args.text.now in
    c.split_at.ensures.front ∙ ap (λ n. take n t) (c.unwrap_or.ensures ∙ ap (λ o. unwrap_or o (length t)) c.space_in.ensures ∙ space_or_end t) ∙ take_word t

pub returns-clause-others : goal.returns-clause-others
returns-clause-others c =
    let t = c.args.text.now in
    c.split_at.ensures.back ∙ ap (λ n. drop n t) (c.unwrap_or.ensures ∙ ap (λ o. unwrap_or o (length t)) c.space_in.ensures ∙ space_or_end t) ∙ drop_word t
