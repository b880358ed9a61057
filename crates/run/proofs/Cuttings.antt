-- A list of calls comes to the run of its stream.
use Rattle.std.proofs.Common.{◌≡◌, ℕ, Bool, true, false, cond, ◌&&◌, List, [], ◌∷◌, fold, sym, refl, ap, ◌∙◌}
use Rattle.sheet.specs.Meanings.{Meaning}
use Rattle.run.specs.declared.types.Refusal.{Refusal}
use Rattle.run.specs.declared.types.Life.{Life}
use Rattle.run.specs.declared.types.Life.TheVariants.{Live, Closed, Refused}
use Rattle.run.specs.Runs.{Config, step_live, step, run, begun, is_outside, is_empty, finish_live, finish, report_of}
use Rattle.run.specs.Cuttings.{Call, feed, finishing, reporting, answering, played, stream, finishes, SameOutcome, Cuts, CutsAlike}
use Rattle.run.proofs.Steps.{run-++}

-- closed or refused: nothing changes any more
abbrev is_over : Life → Bool
is_over Live = false
is_over Closed = true
is_over (Refused f) = true

still_step : (l : Life) (c : Config) (b : ℕ) → c.drawing.life ≡ l → is_over l ≡ true → step c b ≡ c
still_step Live c b e h = cc
still_step Closed c b e h = ap (λ z. step_live z c b) e
still_step (Refused f) c b e h = ap (λ z. step_live z c b) e

pub still_run : (c : Config) (bs : List ℕ) → is_over c.drawing.life ≡ true → run c bs ≡ c
still_run c [] h = refl
still_run c (b ∷ bs) h = ap (λ z. run z bs) (still_step c.drawing.life c b refl h) ∙ still_run c bs h

abbrev finish_by : Life → Config → Config
finish_by l c = record { drawing = finish_live l c.read c.drawing; read = c.read; count = c.count }

still_finish : (l : Life) (c : Config) → c.drawing.life ≡ l → is_over l ≡ true → finish c ≡ c
still_finish Live c e h = cc
still_finish Closed c e h = ap (λ l. finish_by l c) e
still_finish (Refused f) c e h = ap (λ l. finish_by l c) e

still_call : (c : Config) (k : Call) → is_over c.drawing.life ≡ true → answering c k ≡ c
still_call c (feed p) h = still_run c p h
still_call c finishing h = still_finish c.drawing.life c refl h
still_call c reporting h = refl

still_calls : (c : Config) (ks : List Call) → is_over c.drawing.life ≡ true → fold answering c ks ≡ c
still_calls c [] h = refl
still_calls c (k ∷ ks) h = ap (λ z. fold answering z ks) (still_call c k h) ∙ still_calls c ks h

either_over : (t : Bool) (f : Refusal) → is_over (cond t Closed (Refused f)) ≡ true
either_over true f = refl
either_over false f = refl

finish_over : (l : Life) (c : Config) → c.drawing.life ≡ l → is_over (finish c).drawing.life ≡ true
finish_over Live c e = ap (λ l. is_over (finish_live l c.read c.drawing).life) e ∙ either_over (is_outside c.drawing.stance && is_empty c.drawing.held) _
finish_over Closed c e = ap (λ l. is_over (finish_live l c.read c.drawing).life) e ∙ ap is_over e
finish_over (Refused f) c e = ap (λ l. is_over (finish_live l c.read c.drawing).life) e ∙ ap is_over e

-- a run that may end with a finish
abbrev pub ended : Bool → Config → Config
ended t c = cond t (finish c) c

pub cuts_from : (c : Config) (ks : List Call) → fold answering c ks ≡ ended (finishes ks) (run c (stream ks))
cuts_from c [] = refl
cuts_from c (feed p ∷ ks) = cuts_from (run c p) ks ∙ ap (ended (finishes ks)) (sym (run-++ c p (stream ks)))
cuts_from c (finishing ∷ ks) = still_calls (finish c) ks (finish_over c.drawing.life c refl)
cuts_from c (reporting ∷ ks) = cuts_from c ks

pub cuts : Cuts
cuts m ks = cuts_from (begun m) ks

pub same_outcome : (c e : Config) → c ≡ e → SameOutcome c e
same_outcome c e p = record {
  page = ap (λ z. z.drawing.ink.sheet.inked) p;
  stock = ap (λ z. z.drawing.ink.sheet.stock) p;
  report = ap report_of p;
}

-- cuttings of streams that run alike
pub alike_by_runs : (m n : Meaning) (ks ls : List Call) → run (begun m) (stream ks) ≡ run (begun n) (stream ls) → finishes ks ≡ finishes ls → played m ks ≡ played n ls
alike_by_runs m n ks ls e f = cuts m ks ∙ ap (ended (finishes ks)) e ∙ ap (λ t. ended t (run (begun n) (stream ls))) f ∙ sym (cuts n ls)

pub cuts_alike : CutsAlike
cuts_alike m n ks ls e s f = same_outcome (played m ks) (played n ls) (alike_by_runs m n ks ls (ap (λ z. run (begun z) (stream ks)) e ∙ ap (run (begun n)) s) f)
