use Rattle.std.proofs.Common.{◌≡◌, take}
use Rattle.run.specs.Runs.{run}
use Rattle.reader.specs.Views.{config_of}
use Rattle.reader.proofs.reader.Reader.take_all.Given as goal

abbrev pub invariant-loop-byte : goal.invariant-loop-byte
invariant-loop-byte g l =
    let m = g.S.Sheet.meaning in
    (config_of l.self (m l.sheet) ≡ run (config_of l.initial.self (m l.initial.sheet)) (take l.byte-index l.piece))
    × (g.S.Sheet.tied l.sheet ≡ g.S.Sheet.tied l.initial.sheet)
