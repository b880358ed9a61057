use Rattle.std.proofs.Common.{ap, ◌∙◌, sym}
use Rattle.std.specs.List.{list_any}
use Rattle.std.specs.Str.{bytes_eq}
use Rattle.writer.specs.Names.{letters}
use Rattle.writer.proofs.Parts.{any_of_map}
use Rattle.writer.proofs.types.Names.has.Goals as goal

pub returns : goal.returns
returns c =
    let n = c.args.name.now in
    c.is_among.ensures ∙ ap (list_any (λ m. bytes_eq (letters m) n)) c.as_slice.ensures.value ∙ sym (any_of_map (λ m. bytes_eq m n) letters c.args.self.now.each.items)
