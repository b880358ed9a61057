use Rattle.std.proofs.Common.{◌≡◌, ◌+◌, ◌-◌, ◌<◌, ◌≤◌, [], ◌∷◌, ◌++◌, length, take, drop, vec_items, Some, None, sym, refl, ap, ◌∙◌, arith, rules}
use Rattle.std.specs.Option.{option_map}
use Rattle.std.specs.Result.{result_err}
use Rattle.run.specs.Performing.{spot_at, out_of, trouble_at}
use Rattle.calls.specs.Outcomes.{trouble_of, bar, hindrance}
use Rattle.std.proofs.lemmas.Result.{err_from_is_err_and}
use Rattle.statement.specs.Views.{said_by, bytes_of, tail_said}
use Rattle.pen.specs.Views.{ink_of}
use Rattle.sheet.specs.Meanings.{Meaning}
use Rattle.calls.specs.Tables.{open_of, calls_left, entry_of, entries_of}
use Rattle.calls.proofs.Entering.{left_of, barred, does_plain, no_call, calls_none, calls_hindered, calls_in}
use Rattle.calls.proofs.Stores.{not_found, found_entry}
use Rattle.calls.proofs.Walking.{wants_more, refuses, goes_on, breaks_off, ends, same_turn}
use Rattle.calls.proofs.perform.+perform_perform_body.Goals as goal
use Rattle.calls.proofs.perform.+perform_perform_body.Goals.{perform_body-in-Err-Wanting, perform_body-in-Ok+in_ok-perform-in-Ok}

pub perform-returns-in_err-map_err : goal.perform-returns-in_err-map_err
perform-returns-in_err-map_err g t c =
    let o = c.args.calls.now in
    let i = ink_of c.args.work.now.pen (g.S.Sheet.meaning c.args.sheet.now) in
    let p = err_from_is_err_and c.from_residual.result c.from_residual.ensures.1 in
    let e = c.in_err-map_err.field-0.0 in
    let f : Some e.fault ≡ bar (said_by c.args.statement.now) c.args.work.now.count = search rules in
    let s : e.spot ≡ spot_at (length (open_of o)) c.args.offset = search rules in
    rw (p.1, p.2) (record { after = rw s (barred (calls_left o) (entries_of c.args.table.now) (open_of o) c.args.offset i c.args.work.now.count e.fault (said_by c.args.statement.now) f); tied = refl })

pub perform-returns-in_default : goal.perform-returns-in_default
perform-returns-in_default g t c =
    let o = c.args.calls.now in
    let i = ink_of c.args.work.now.pen (g.S.Sheet.meaning c.args.sheet.now) in
    let k = c.args.work.now.count in
    let x = said_by c.args.statement.now in
    let free : None ≡ bar x k = search rules in
    let s = spot_at (length (open_of o)) c.args.offset in
    let r : option_map trouble_of (result_err c.map_err-in_default.result) ≡ trouble_at s (result_err c.perform_plain.result) = search rules in
    record {
      after = rw r (ap (λ d. out_of s d (k + 1)) c.perform_plain.ensures.after ∙ does_plain (calls_left o) (entries_of c.args.table.now) (open_of o) c.args.offset i k (left_of o) x free (no_call c.args.statement.now c.in_default.not-Insts));
      tied = c.perform_plain.ensures.tied;
    }

pub perform-returns-in_default-find : goal.perform-returns-in_default-find
perform-returns-in_default-find g t c =
    let m : Meaning = g.S.Sheet.meaning c.args.sheet.now in
    let o = c.args.calls.now in
    let T = entries_of c.args.table.now in
    let n = bytes_of c.in-Insts.name in
    let k = c.args.work.now.count in
    let x = said_by c.args.statement.now in
    let free : None ≡ bar x k = search rules in
    record {
      after = calls_none (calls_left o) T (open_of o) c.args.offset (ink_of c.args.work.now.pen m) k (left_of o) n (tail_said c.in-Insts.tail) (ink_of c.arrive.new.pen m) x (c.arrive.ensures m) (ap said_by c.in-Insts.is) free (not_found T n (sym c.in_default-find.ensures.value));
      tied = refl;
    }

pub perform-returns-in_err-map_err-2 : goal.perform-returns-in_err-map_err-2
perform-returns-in_err-map_err-2 g t c =
    let m : Meaning = g.S.Sheet.meaning c.args.sheet.now in
    let o = c.args.calls.now in
    let es = vec_items c.args.table.now.entries in
    let n = bytes_of c.in-Insts.name in
    let k = c.args.work.now.count in
    let x = said_by c.args.statement.now in
    let free : None ≡ bar x k = search rules in
    let e = c.entry-entry.result.now in
    let l : c.in-Some.at < length es = search rules in
    let w = found_entry entry_of es n c.in-Some.at e c.in-Some.ensures.value l c.entry-entry.ensures in
    let p = err_from_is_err_and c.from_residual-in_err-map_err-2.result c.from_residual-in_err-map_err-2.ensures.1 in
    let a = c.in_err-map_err-2.field-0.0 in
    let f : Some a.fault ≡ hindrance (entry_of e) n (open_of o) = search rules in
    let s : a.spot ≡ spot_at (length (open_of o)) c.args.offset = search rules in
    rw (p.1, p.2) (record {
      after = rw s (calls_hindered (calls_left o) (entries_of c.args.table.now) (open_of o) c.args.offset (ink_of c.args.work.now.pen m) k (left_of o) n (tail_said c.in-Insts.tail) (ink_of c.arrive.new.pen m) x (c.arrive.ensures m) (ap said_by c.in-Insts.is) free (entry_of e) a.fault w f);
      tied = refl;
    })

pub perform-returns : goal.perform-returns
perform-returns g t c =
    let m : Meaning = g.S.Sheet.meaning c.args.sheet.now in
    let o = c.args.calls.now in
    let es = vec_items c.args.table.now.entries in
    let n = bytes_of c.in-Insts.name in
    let k = c.args.work.now.count in
    let x = said_by c.args.statement.now in
    let free : None ≡ bar x k = search rules in
    let e = c.entry-entry.result.now in
    let l : c.in-Some.at < length es = search rules in
    let w = found_entry entry_of es n c.in-Some.at e c.in-Some.ensures.value l c.entry-entry.ensures in
    let f : None ≡ hindrance (entry_of e) n (open_of o) = search rules in
    let inner = c.with.result in
    let more : open_of inner ≡ open_of o ++ ((entry_of e).name ∷ []) = search rules in
    let b : c.recorded.result.now ≡ (entry_of e).body = search rules in
    let q = rw b at c.perform_body.ensures.after in
    record {
      after = calls_in (calls_left o) (entries_of c.args.table.now) (open_of o) c.args.offset (ink_of c.args.work.now.pen m) k (left_of o) n (tail_said c.in-Insts.tail) (ink_of c.arrive.new.pen m) x (c.arrive.ensures m) (ap said_by c.in-Insts.is) free (entry_of e) (calls_left inner) (open_of inner) w f (left_of inner) more q;
      tied = c.perform_body.ensures.tied;
    }

pub perform_body-returns-in-Err-Wrong : goal.perform_body-returns-in-Err-Wrong
perform_body-returns-in-Err-Wrong g t c =
    let m : g.row.S.Denot → Meaning = g.S.Sheet.meaning in
    let o = c.args.calls.now in
    let i = ink_of c.loop-end.work.pen (m c.loop-end.sheet) in
    record {
      after = rw (c.spot-spot.ensures, c.into-fault.ensures) (sym (c.loop-end.invariant.1 ∙ refuses (calls_left o) (entries_of c.args.table.now) (open_of o) c.args.body.now c.loop-end.start c.loop-end.end i c.loop-end.work.count c.loop-end.invariant.0 c.loop-end-test.true (rw c.in-Err-Wrong.field-0-is at c.in-Err-Wrong.ensures).value));
      tied = c.loop-end.invariant.2;
    }

pub perform_body-returns-in_err-perform-in-Ok : goal.perform_body-returns-in_err-perform-in-Ok
perform_body-returns-in_err-perform-in-Ok g t c =
    let m : g.row.S.Denot → Meaning = g.S.Sheet.meaning in
    let o = c.args.calls.now in
    let i = ink_of c.loop-end.work.pen (m c.loop-end.sheet) in
    let p = err_from_is_err_and c.from_residual.result c.from_residual.ensures.1 in
    let e = c.in_err-perform-in-Ok.ensures in
    rw (p.1, p.2) (record {
      after = sym (c.loop-end.invariant.1 ∙ breaks_off (calls_left o) (entries_of c.args.table.now) (open_of o) c.args.body.now c.loop-end.start c.loop-end.end i c.loop-end.work.count c.loop-end.invariant.0 c.loop-end-test.true (said_by c.in-Ok.statement) c.in-Ok.ensures.value e.after);
      tied = e.tied ∙ c.loop-end.invariant.2;
    })

pub perform_body-loop-end-preserved : goal.perform_body-loop-end-preserved
perform_body-loop-end-preserved g t c =
    let m : g.row.S.Denot → Meaning = g.S.Sheet.meaning in
    let o = c.args.calls.now in
    let d = calls_left o in
    let T = entries_of c.args.table.now in
    let b = c.args.body.now in
    let start = c.loop-end.start in
    let end = c.loop-end.end in
    let i = ink_of c.loop-end.work.pen (m c.loop-end.sheet) in
    let k = c.loop-end.work.count in
    let now = c.match-read in
    let z : end + 1 - 1 ≡ end = omega arith in
    elim c.match-read.branch [
      | perform_body-in-Err-Wanting w ↦
          let e = wants_more d T (open_of o) b start end i k c.loop-end.invariant.0 c.loop-end-test.true (rw w.in-Err-Wanting.field-0-is at w.in-Err-Wanting.ensures).value in (
            omega (arith, c.loop-end.invariant.0, w.start-is),
            rw z (same_turn d T (open_of o) b end start now.start c.loop-end.work now.work (m c.loop-end.sheet) (m now.sheet) w.start-is w.work-is (ap m w.sheet-is) (c.loop-end.invariant.1 ∙ e)),
            ap g.S.Sheet.tied w.sheet-is ∙ c.loop-end.invariant.2,
          )
      | perform_body-in-Ok+in_ok-perform-in-Ok w ↦
          let p = w.in_ok-perform-in-Ok.ensures in
          let last = w.perform.new in
          let e = goes_on d T (open_of o) b start end i k c.loop-end.invariant.0 c.loop-end-test.true (said_by w.in-Ok.statement) (ink_of last.work.pen (m last.sheet)) last.work.count w.in-Ok.ensures.value p.after in (
            omega (arith, w.start-is),
            rw z (same_turn d T (open_of o) b end end now.start last.work now.work (m last.sheet) (m now.sheet) w.start-is w.work-is (ap m w.sheet-is) (c.loop-end.invariant.1 ∙ e)),
            ap g.S.Sheet.tied w.sheet-is ∙ p.tied ∙ c.loop-end.invariant.2,
          )
    ]

pub perform_body-returns : goal.perform_body-returns
perform_body-returns g t c =
    let o = c.args.calls.now in
    let i = ink_of c.loop-end.work.pen (g.S.Sheet.meaning c.loop-end.sheet) in
    record { after = sym (c.loop-end.invariant.1 ∙ ends (calls_left o) (entries_of c.args.table.now) (open_of o) c.args.body.now (c.loop-end.end - 1) c.loop-end.start _ i c.loop-end.work.count (omega (arith, c.loop-end-test.false))); tied = c.loop-end.invariant.2 }

pub perform_body-returns-after-read-clause-after : goal.perform_body-returns-after-read-clause-after
perform_body-returns-after-read-clause-after g t c =
    let m : g.row.S.Denot → Meaning = g.S.Sheet.meaning in
    let o = c.args.calls.now in
    let d = calls_left o in
    let T = entries_of c.args.table.now in
    let b = c.args.body.now in
    let start = c.loop-end.start in
    let end = c.loop-end.end in
    let i = ink_of c.loop-end.work.pen (m c.loop-end.sheet) in
    let k = c.loop-end.work.count in
    let now = c.match-read in
    let all : length b ≤ end = search rules in
    let over = ends d T (open_of o) b end now.start (take (end - now.start) (drop now.start b)) (ink_of now.work.pen (m now.sheet)) now.work.count all in
    elim c.match-read.branch [
      | perform_body-in-Err-Wanting w ↦
          let e = wants_more d T (open_of o) b start end i k c.loop-end.invariant.0 c.loop-end-test.true (rw w.in-Err-Wanting.field-0-is at w.in-Err-Wanting.ensures).value in
          sym (same_turn d T (open_of o) b end start now.start c.loop-end.work now.work (m c.loop-end.sheet) (m now.sheet) w.start-is w.work-is (ap m w.sheet-is) (c.loop-end.invariant.1 ∙ e) ∙ over)
      | perform_body-in-Ok+in_ok-perform-in-Ok w ↦
          let p = w.in_ok-perform-in-Ok.ensures in
          let last = w.perform.new in
          let e = goes_on d T (open_of o) b start end i k c.loop-end.invariant.0 c.loop-end-test.true (said_by w.in-Ok.statement) (ink_of last.work.pen (m last.sheet)) last.work.count w.in-Ok.ensures.value p.after in
          sym (same_turn d T (open_of o) b end end now.start last.work now.work (m last.sheet) (m now.sheet) w.start-is w.work-is (ap m w.sheet-is) (c.loop-end.invariant.1 ∙ e) ∙ over)
    ]
