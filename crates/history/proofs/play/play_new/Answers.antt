use Rattle.std.proofs.Common.{◌∙◌}
use Rattle.history.proofs.Tales.{idle_same}
use Rattle.history.proofs.Written.{written}
use Rattle.writer.specs.Names.{known}
use Rattle.history.proofs.play.play_new.Goals as goal

pub returns : goal.returns
returns c =
    let r = c.play_all.result in
    let m = c.make.ensures in
    let w = written r.buffer.now (known r.names) r.used c.args.buffer.now c.args.operations.now
    (c.play_all.ensures.book ∙ idle_same c.args.operations.now m.bytes m.names m.used) r.within r.few in
    record { count = w.count; bytes = w.bytes; back = w.back; tied = c.play_all.ensures.tied ∙ m.tied }
