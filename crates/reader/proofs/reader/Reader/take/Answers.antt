use Rattle.std.proofs.Common.{◌≡◌, [], Ok, Err, refl, ap, ◌∙◌, arith}
use Rattle.sheet.specs.Meanings.{Meaning}
use Rattle.run.specs.declared.types.Life.TheVariants.{Refused}
use Rattle.reader.specs.declared.settle.Settled.TheVariants.{More, Done}
use Rattle.reader.specs.Held.{bytes_held}
use Rattle.reader.proofs.Steps.{roomy, grown, one_picture, stepped, after_byte}
use Rattle.reader.proofs.reader.Reader.take.Goals as goal

pub push-requires : goal.push-requires
push-requires g c = omega (arith, roomy c.args.self.now)

pub invariant_of-self-in-Ok-More : goal.invariant_of-self-in-Ok-More
invariant_of-self-in-Ok-More g c =
    let r = c.args.self.now in
    let d : c.as_slice.result.now ≡ grown r c.args.byte = c.as_slice.ensures ∙ c.push.ensures.items in
    let s = rw (c.in-Ok-More.field-0-is, d, c.len.ensures) at c.in-Ok-More.ensures in
    record {
      begun = rw c.push.ensures.items s.waits;
      placed = omega (arith, c.push.ensures.len, r.placed);
      limited = omega (arith, c.if-self-ge-LONGEST_STREAM.false);
      ended = one_picture r (g.S.Sheet.meaning c.args.sheet.now) c.args.byte (Ok More) c.settle.new.self (g.S.Sheet.meaning c.settle.new.sheet) (s.after (bytes_held r.held));
    }

pub invariant_of-self-in-Ok-Done : goal.invariant_of-self-in-Ok-Done
invariant_of-self-in-Ok-Done g c =
    let r = c.args.self.now in
    let d : c.as_slice.result.now ≡ grown r c.args.byte = c.as_slice.ensures ∙ c.push.ensures.items in
    let s = rw (c.in-Ok-Done.field-0-is, d, c.len.ensures) at c.in-Ok-Done.ensures in
    record {
      begun = rw c.clear-in-Ok-Done.ensures refl;
      placed = rw c.clear-in-Ok-Done.ensures (omega arith);
      limited = omega (arith, c.if-self-ge-LONGEST_STREAM.false);
      ended = one_picture r (g.S.Sheet.meaning c.args.sheet.now) c.args.byte (Ok Done) c.settle.new.self (g.S.Sheet.meaning c.settle.new.sheet) (s.after (bytes_held r.held));
    }

pub invariant_of-self-in-Err : goal.invariant_of-self-in-Err
invariant_of-self-in-Err g c =
    let r = c.args.self.now in
    let d : c.as_slice.result.now ≡ grown r c.args.byte = c.as_slice.ensures ∙ c.push.ensures.items in
    let s = rw (d, c.len.ensures) at c.in-Err.ensures in
    record {
      begun = rw c.clear-in-Err.ensures refl;
      placed = rw c.clear-in-Err.ensures (omega arith);
      limited = omega (arith, c.if-self-ge-LONGEST_STREAM.false);
      ended = one_picture r (g.S.Sheet.meaning c.args.sheet.now) c.args.byte (Err c.in-Err.refusal) c.settle.new.self (g.S.Sheet.meaning c.settle.new.sheet) (s.after (bytes_held r.held));
    }

pub returns-in-Ok-More : goal.returns-in-Ok-More
returns-in-Ok-More g c =
    let r = c.args.self.now in
    let w = c.settle.new.self in
    let n : Meaning = g.S.Sheet.meaning c.settle.new.sheet in
    let d : c.as_slice.result.now ≡ grown r c.args.byte = c.as_slice.ensures ∙ c.push.ensures.items in
    let s = rw (c.in-Ok-More.field-0-is, d, c.len.ensures) at c.in-Ok-More.ensures in
    record {
      after = ap (λ z. after_byte r r.life z w n) c.push.ensures.items ∙ ap (λ z. after_byte r z (grown r c.args.byte) w n) c.in-Live.is ∙ stepped r (g.S.Sheet.meaning c.args.sheet.now) c.args.byte (Ok More) w n (s.after (bytes_held r.held)) c.in-Live.is c.if-self-ge-LONGEST_STREAM.false;
      tied = s.tied;
    }

pub returns-in-Ok-Done : goal.returns-in-Ok-Done
returns-in-Ok-Done g c =
    let r = c.args.self.now in
    let w = c.settle.new.self in
    let n : Meaning = g.S.Sheet.meaning c.settle.new.sheet in
    let d : c.as_slice.result.now ≡ grown r c.args.byte = c.as_slice.ensures ∙ c.push.ensures.items in
    let s = rw (c.in-Ok-Done.field-0-is, d, c.len.ensures) at c.in-Ok-Done.ensures in
    record {
      after = ap (λ z. after_byte r r.life z w n) c.clear-in-Ok-Done.ensures ∙ ap (λ z. after_byte r z [] w n) c.in-Live.is ∙ stepped r (g.S.Sheet.meaning c.args.sheet.now) c.args.byte (Ok Done) w n (s.after (bytes_held r.held)) c.in-Live.is c.if-self-ge-LONGEST_STREAM.false;
      tied = s.tied;
    }

pub returns-in-Err : goal.returns-in-Err
returns-in-Err g c =
    let r = c.args.self.now in
    let w = c.settle.new.self in
    let n : Meaning = g.S.Sheet.meaning c.settle.new.sheet in
    let d : c.as_slice.result.now ≡ grown r c.args.byte = c.as_slice.ensures ∙ c.push.ensures.items in
    let s = rw (d, c.len.ensures) at c.in-Err.ensures in
    record {
      after = ap (λ z. after_byte r (Refused c.in-Err.refusal) z w n) c.clear-in-Err.ensures ∙ stepped r (g.S.Sheet.meaning c.args.sheet.now) c.args.byte (Err c.in-Err.refusal) w n (s.after (bytes_held r.held)) c.in-Live.is c.if-self-ge-LONGEST_STREAM.false;
      tied = s.tied;
    }
