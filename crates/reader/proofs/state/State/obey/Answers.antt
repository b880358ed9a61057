use Rattle.std.proofs.Common.{◌≡◌, true, sym, refl, ◌∙◌, rules}
use Rattle.statement.specs.declared.types.Standing.TheVariants as standing
use Rattle.statement.specs.declared.types.Statement.TheVariants as stmt
use Rattle.statement.specs.Views.{said_by}
use Rattle.calls.specs.Outcomes.{is_act}
use Rattle.reader.proofs.Obeys.{obeyed, performs, records}
use Rattle.reader.proofs.state.State.obey.Goals as goal

pub returns-in-Outside-Subhed : goal.returns-in-Outside-Subhed
returns-in-Outside-Subhed g c =
    let a = c.in-Outside-Subhed in
    let m = g.S.Sheet.meaning c.args.sheet.now in
    record {
      after = λ h. c.begin_definition.ensures m h ∙ sym (obeyed c.args.self.now c.args.bytes.now c.args.at h m standing.Outside c.args.statement (stmt.Subhed a.name a.header) a.is-0 a.is-1);
      tied = refl;
    }

pub returns-in-Picture-Subhed : goal.returns-in-Picture-Subhed
returns-in-Picture-Subhed g c =
    let a = c.in-Picture-Subhed in
    let m = g.S.Sheet.meaning c.args.sheet.now in
    record {
      after = λ h. c.begin_definition-in-Picture-Subhed.ensures m h ∙ sym (obeyed c.args.self.now c.args.bytes.now c.args.at h m standing.Picture c.args.statement (stmt.Subhed a.name a.header) a.is-0 a.is-1);
      tied = refl;
    }

pub returns-in-Picture-default : goal.returns-in-Picture-default
returns-in-Picture-default g c =
    let m = g.S.Sheet.meaning c.args.sheet.now in
    let f : is_act (said_by c.args.statement) ≡ true = search rules in
    record {
      after = λ h. c.perform.ensures.after h ∙ performs c.args.self.now c.args.bytes.now c.args.at h m (said_by c.args.statement) c.in-Picture-default.is-0 f;
      tied = c.perform.ensures.tied;
    }

pub returns-in-Definition-Subend : goal.returns-in-Definition-Subend
returns-in-Definition-Subend g c =
    let a = c.in-Definition-Subend in
    let m = g.S.Sheet.meaning c.args.sheet.now in
    record {
      after = λ h. c.end_definition.ensures m h _ a.is-0 ∙ sym (obeyed c.args.self.now c.args.bytes.now c.args.at h m _ c.args.statement stmt.Subend a.is-0 a.is-1);
      tied = refl;
    }

pub returns-in-Definition-default : goal.returns-in-Definition-default
returns-in-Definition-default g c =
    let a = c.in-Definition-default in
    let m = g.S.Sheet.meaning c.args.sheet.now in
    let f : is_act (said_by c.args.statement) ≡ true = search rules in
    record {
      after = λ h. c.record_statement.ensures m h _ a.is-0 ∙ records c.args.self.now c.args.bytes.now c.args.at h m _ (said_by c.args.statement) a.is-0 f;
      tied = refl;
    }
