-- What calls end in, by what they come to.
use Rattle.std.proofs.Common.{◌≡◌, ◌<◌, List, sym, ap, ◌∙◌}
use Rattle.std.specs.List.{AllByRecursion}
use Rattle.sheet.specs.Meanings.{Meaning}
use Rattle.run.specs.declared.types.Report.{Report}
use Rattle.run.specs.Runs.{Config, report_of}
use Rattle.run.specs.Cuttings.{played, SameOutcome}
use Rattle.run.specs.Written.{SameDrawing}
use Rattle.run.proofs.Cuttings.{cuts, cuts_alike}
use Rattle.run.proofs.Restates.{restates_alike}
use Rattle.run.proofs.Writes.{writes_alike}
use Rattle.play.specs.declared.list.Call.{Call as Asked}
use Rattle.play.specs.Laws.{SameEnd, SameDrawn, PlayedBoth}
use Rattle.play.specs.Plays.{Ends, calls_of, stream_of, comes_to}

pub ends_as : (m n : Meaning) (ks : List Asked) (r : Report) → Ends (played m (calls_of ks)) n r → Ends (comes_to m ks) n r
ends_as m n ks r e =
    record { sheet = e.sheet ∙ ap (λ z. z.drawing.ink.sheet) (cuts m (calls_of ks)); report = e.report ∙ ap report_of (cuts m (calls_of ks)) }

as_played : (m n : Meaning) (ks : List Asked) (r : Report) → Ends (comes_to m ks) n r → Ends (played m (calls_of ks)) n r
as_played m n ks r e =
    record { sheet = e.sheet ∙ sym (ap (λ z. z.drawing.ink.sheet) (cuts m (calls_of ks))); report = e.report ∙ sym (ap report_of (cuts m (calls_of ks))) }

module _ (c e : Config) (m n : Meaning) (r s : Report) (x : Ends c m r) (y : Ends e n s) where
  same_page : c.drawing.ink.sheet.inked ≡ e.drawing.ink.sheet.inked → m.inked ≡ n.inked
  same_page h = ap (λ z. z.inked) x.sheet ∙ h ∙ sym (ap (λ z. z.inked) y.sheet)

  same_stock : c.drawing.ink.sheet.stock ≡ e.drawing.ink.sheet.stock → m.stock ≡ n.stock
  same_stock h = ap (λ z. z.stock) x.sheet ∙ h ∙ sym (ap (λ z. z.stock) y.sheet)

  same_end : SameOutcome c e → SameEnd m n r s
  same_end h = record { page = same_page h.page; stock = same_stock h.stock; report = x.report ∙ h.report ∙ sym y.report }

  same_drawn : SameDrawing c e → SameDrawn m n r s
  same_drawn h = record { page = same_page h.page; stock = same_stock h.stock; beam = ap (λ z. z.beam) x.report ∙ h.beam ∙ sym (ap (λ z. z.beam) y.report) }

pub both_played : (m n : Meaning) (ks ls : List Asked) (m' n' : Meaning) (r s : Report) → Ends (comes_to m ks) m' r → Ends (comes_to n ls) n' s → AllByRecursion (λ b. b < 256) (stream_of ks)
    → PlayedBoth m n ks ls m' n' r s
both_played m n ks ls m' n' r s x y b =
    let c = played m (calls_of ks) in
    let e = played n (calls_of ls) in
    let x' = as_played m m' ks r x in
    let y' = as_played n n' ls s y in
    record {
      first = x;
      second = y;
      cut = λ a h f. same_end c e m' n' r s x' y' (cuts_alike m n (calls_of ks) (calls_of ls) a h f);
      restated = λ a h f. same_end c e m' n' r s x' y' (restates_alike m n (calls_of ks) (calls_of ls) a h f);
      written = λ a h f k. same_drawn c e m' n' r s x' y' (writes_alike m n (calls_of ks) (calls_of ls) a b h f k);
    }
