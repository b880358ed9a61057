use Rattle.std.proofs.Common.{◌∷◌, length, sym, ap, ◌∙◌, arith}
use lib.Seq.{sets}
use Rattle.std.specs.Option.{option_map}
use Rattle.statement.specs.Views.{bytes_of, tail_said}
use Rattle.spelling.specs.Spelling.{spell_tail, tail_fits}
use Rattle.encoding.proofs.Puts.{coded_length, coded_bytes}
use Rattle.spelling.proofs.Tails.{tail_short}
use Rattle.encoding.proofs.tail.put_tail.Goals as goal

pub overflow_cast-size : goal.overflow_cast-size
overflow_cast-size c = record { fits = omega (arith, tail_short (tail_said c.args.tail) c.requires.fits) }

pub put_as-next-requires : goal.put_as-next-requires
put_as-next-requires c =
    let said = ap tail_said c.in-Coded.is in
    let size = ap (λ t. length (spell_tail t)) said ∙ coded_length (option_map bytes_of c.in-Coded.as_name) c.in-Coded.at in
    record { short = ap tail_fits (sym said) ∙ c.requires.fits; room = omega arith }

pub put_at-requires : goal.put_at-requires
put_at-requires c =
    let size = ap (λ t. length (spell_tail (tail_said t))) c.in-Coded.is ∙ coded_length (option_map bytes_of c.in-Coded.as_name) c.in-Coded.at in
    omega arith

pub returns-in-Coded : goal.returns-in-Coded
returns-in-Coded c =
    let a = option_map bytes_of c.in-Coded.as_name in
    let p = c.in-Coded.at in
    let said = ap tail_said c.in-Coded.is in
    let size = ap (λ t. length (spell_tail t)) said in
    let parts = coded_length a p in
    let small = tail_short (tail_said c.args.tail) c.requires.fits in
    record {
      after = omega arith;
      bytes =
          coded_bytes a p c.args.buffer.now c.put-next.new.buffer c.put_as-next.new.buffer c.put_at.new.buffer c.args.place c.put-next.result c.put_as-next.result
          c.tail_extent-size.result c.tail_byte.result (omega arith) c.tail_byte.ensures c.put-next.ensures.bytes c.put-next.ensures.after
          c.put_as-next.ensures.bytes c.put_as-next.ensures.after c.put_at.ensures.bytes
          ∙ ap (λ t. sets c.args.buffer.now c.args.place (length (spell_tail t) ∷ spell_tail t)) (sym said);
    }
