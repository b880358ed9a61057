use Rattle.std.proofs.Common.{◌∙◌, arith}
use Rattle.statement.specs.Views.{said_by}
use Rattle.walking.proofs.Steps.{told_on, refused_step, open_step, long_step}
use Rattle.walking.proofs.walker.Walker.next.Goals as goal

pub returns-in-Ok-clause-step : goal.returns-in-Ok-clause-step
returns-in-Ok-clause-step c =
    let w = c.args.self.now in
    let g = c.in-Ok.ensures.spelt in
    told_on w.standing w.place w.bytes.now c.min-limit.result (omega arith) (omega arith) (omega arith) (said_by c.in-Ok.statement) g.0 g.1 g.2 c.after.result
    c.extent.result c.after.ensures c.extent.ensures

pub returns-in-Err-Wrong-clause-step : goal.returns-in-Err-Wrong-clause-step
returns-in-Err-Wrong-clause-step c =
    let w = c.args.self.now in
    let is = rw c.in-Err-Wrong.field-0-is at c.in-Err-Wrong.ensures.value in
    refused_step w.standing w.place w.bytes.now c.min-limit.result (omega arith) (omega arith) (omega arith) c.in-Err-Wrong.fault is

pub returns-in-Err-Wanting-clause-step : goal.returns-in-Err-Wanting-clause-step
returns-in-Err-Wanting-clause-step c =
    let w = c.args.self.now in
    let is = rw c.in-Err-Wanting.field-0-is at c.in-Err-Wanting.ensures.value in
    long_step w.standing w.place w.bytes.now c.min-limit.result (omega arith) (omega arith) (omega arith) (omega arith) (omega arith) is

pub returns-in-Err-Wanting-2-clause-step : goal.returns-in-Err-Wanting-2-clause-step
returns-in-Err-Wanting-2-clause-step c =
    let w = c.args.self.now in
    let is = rw c.in-Err-Wanting.field-0-is at c.in-Err-Wanting.ensures.value in
    let step = open_step w.standing w.place w.bytes.now c.min-limit.result (omega arith) (omega arith) (omega arith) (omega arith) is in
    λ ts. ((step ts).0, c.end_at.ensures ∙ (step ts).1)
