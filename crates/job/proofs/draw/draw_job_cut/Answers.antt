use Rattle.std.proofs.Common.{◌≡◌, ℕ, List, length, None, Ok, Result, sym, ap, ◌∙◌, subst, arith}
use Rattle.std.proofs.lemmas.Bool.Decides.{nat_tests}
use Rattle.run.specs.Runs.{Config, run, finish}
use Rattle.sheet.specs.Meanings.{blank}
use Rattle.reader.specs.declared.reader.Reader.{Reader}
use Rattle.play.specs.Plays.{New}
use Rattle.job.specs.declared.refusal.Refusal.{Refusal}
use Rattle.job.specs.Jobs.{admission, side_of, stream_of, job_text, shown, drawing_by, job_text_by, fit_answer, answer_by, leaves, Came, LeavesReader}
use Rattle.job.proofs.draw.draw_job_cut.Goals as goal

-- the side of an admitted job
side_is : (job : List ℕ) (n : ℕ) → admission job ≡ Ok n → n ≡ side_of job
side_is job n h = grind (arith, nat_tests)

-- a new reader prints what the job alone comes to
as_new : (r : Reader) (job : List ℕ) → New r → job_text_by r job ≡ job_text job
as_new r job new = ap (λ (c : Config). shown (finish (run c (stream_of job)))) (new (blank (side_of job) None))

-- the answer to the text of an admitted job
fits_is :
    (job text : List ℕ) (n space : ℕ) {same : List ℕ} → admission job ≡ Ok n → same ≡ text
    → fit_answer (length same) space ≡ answer_by (admission job) (length text) space
fits_is job text n space a t =
    ap (λ (x : List ℕ). fit_answer (length x) space) t ∙ sym (ap (λ (o : Result ℕ Refusal). answer_by o (length text) space) a)

pub returns : goal.returns
returns c =
    let job = c.args.job.now in
    let r = c.args.reader.now in
    let out = c.args.out.now in
    let n = c.in_ok-fit.fit.side in
    let a : admission job ≡ Ok n = c.in_ok-fit.ensures.0 in
    let side = side_is job n a in
    let stream = c.in_ok-fit.ensures.1 in
    let d : drawing_by r n c.in_ok-fit.fit.stream.now ≡ drawing_by r (side_of job) (stream_of job) = λ i. drawing_by r (side i) (stream i) in
    let text = ap shown d in
    let drawn = c.draw.ensures in
    let answer = drawn.answer ∙ fits_is job (job_text_by r job) n (length out) a text in
    let bytes = drawn.bytes ∙ ap (λ (x : List ℕ). leaves c.draw.result x out) text in
    record {
      answer = λ new. answer ∙ ap (λ (x : List ℕ). answer_by (admission job) (length x) (length out)) (as_new r job new);
      bytes = λ new. bytes ∙ ap (λ (x : List ℕ). leaves c.draw.result x out) (as_new r job new);
      any_answer = answer;
      any_bytes = bytes;
      after = subst (λ (o : Result ℕ Refusal). LeavesReader o job r c.draw.new.reader) (sym a) (subst (Came c.draw.new.reader) d drawn.after);
    }
