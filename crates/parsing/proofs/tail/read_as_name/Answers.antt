use Rattle.std.proofs.Common.{◌+◌, ◌-◌, ◌≤◌, length, get_or, take, drop, sym, refl, ap, ◌∙◌, arith, length-drop, length-take, rules}
use Rattle.std.proofs.lemmas.List.{take-take}
use Rattle.parsing.proofs.Places.{part_lies}
use Rattle.parsing.proofs.Tails.{as_name}
use Rattle.parsing.proofs.tail.read_as_name.Goals as goal

pub returns-in-len1-up : goal.returns-in-len1-up
returns-in-len1-up c =
    let bytes = c.args.bytes.now in
    let n = get_or bytes 0 0 in
    let some : 1 ≤ length bytes = search rules in
    let split = c.split_at.ensures in
    let fits : n ≤ length bytes - 1 = omega (arith, simp (length-take, length-drop) at c.if-n-rest.true) in
    record {
      value = λ k. as_name k bytes some c.if-n-le8.true c.if-n-rest.true split.front split.back;
      place = λ ws e.
          ap (λ m. take m (drop (c.args.at + 1) ws)) split.front_len
          ∙ part_lies c.args.at ws bytes e 1 n (omega arith)
          ∙ sym (take-take n (length bytes - 1) (drop 1 bytes) fits)
          ∙ sym split.front;
      stands = refl;
    }
