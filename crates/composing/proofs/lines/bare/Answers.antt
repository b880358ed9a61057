use Rattle.std.proofs.Common.{◌≡◌, ◌-◌, ◌≤◌, not, length, drop, sym, ap, ◌∙◌, arith, length-drop}
use Rattle.std.specs.Option.{unwrap_or}
use Rattle.std.specs.List.{position_or_len}
use Rattle.std.proofs.lemmas.List.{take_all}
use Rattle.composing.specs.Lines.{is_fill}
use Rattle.composing.proofs.Cuts.{or_end, bare_at}
use Rattle.composing.proofs.lines.bare.Goals as goal

pub returns-clause-value : goal.returns-clause-value
returns-clause-value c =
    let l = c.args.line.now in
    let n = c.unwrap_or.result in
    let at : n ≡ position_or_len (λ b. not (is_fill b)) l = c.unwrap_or.ensures ∙ ap (λ o. unwrap_or o (length l)) c.words_start.ensures ∙ or_end (λ b. not (is_fill b)) l in
    let few : length (drop n l) ≤ length l - n = simp length-drop (omega arith) in
    take_all (length l - n) (drop n l) few ∙ ap (λ k. drop k l) at ∙ sym (bare_at l)
