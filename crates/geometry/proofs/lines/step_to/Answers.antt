use Rattle.std.proofs.Common.{◌≡◌, pos, ◌+ℤ◌, ◌-ℤ◌, sym, ◌∙◌, arith, w32, to_z, of_z}
use Rattle.std.proofs.lemmas.Int.{ints}
use Rattle.geometry.proofs.Sizes.{within}
use Rattle.geometry.proofs.Quotients.{along_up, along_down}
use Rattle.geometry.proofs.lines.step_to.Goals as goal

pub returns-then-c-a : goal.returns-then-c-a
returns-then-c-a t =
    let a = t.args.a in
    let c = t.args.c in
    let u = within a 8192 t.requires.0 in
    let v = within c 8192 t.requires.1.0 in
    let sum : to_z w32 (of_z w32 (to_z w32 (of_z w32 a) +ℤ to_z w32 t.args.k)) ≡ a +ℤ pos t.args.k = omega (arith, ints) in
    let d : c -ℤ a ≡ pos t.args.n = omega (arith, ints) in
    sum ∙ sym (along_up a c t.args.n t.args.k t.requires.1.1.0 d)

pub returns-then-a-c : goal.returns-then-a-c
returns-then-a-c t =
    let a = t.args.a in
    let c = t.args.c in
    let u = within a 8192 t.requires.0 in
    let v = within c 8192 t.requires.1.0 in
    let sum : to_z w32 (of_z w32 (to_z w32 (of_z w32 a) -ℤ to_z w32 t.args.k)) ≡ a -ℤ pos t.args.k = omega (arith, ints) in
    let d : a -ℤ c ≡ pos t.args.n = omega (arith, ints) in
    sum ∙ sym (along_down a c t.args.n t.args.k t.requires.1.1.0 d)
