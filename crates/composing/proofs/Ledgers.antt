-- Lines, one by one, against the ledger of a whole text.
use Rattle.std.proofs.Common.{◌≡◌, ℕ, ◌+◌, true, false, cond, List, ◌++◌, length, Some, None, Ok, Err, Option, Result, sym, refl, ap, ◌∙◌, add-zero, arith, length-append}
use lib.Seq.{sets, length-sets}
use Rattle.std.specs.Result.{result_err, is_err}
use Rattle.std.proofs.lemmas.Bool.{true≢false, false≢true}
use Rattle.statement.specs.Statements.{Said, erase, endpic, subhed, subend, act}
use Rattle.spelling.specs.Spelling.{spell}
use Rattle.spelling.specs.Laws.{spell_all}
use Rattle.writer.specs.declared.types.Opened.{Opened}
use Rattle.writer.specs.declared.types.Opened.TheVariants as opened
use Rattle.writer.specs.declared.types.Refusal.{Refusal}
use Rattle.writer.specs.Answers.{write_answer, closing}
use Rattle.writer.proofs.Judged.{writes}
use Rattle.history.specs.Tales.{State, idle, busy, after}
use Rattle.history.proofs.Tales.{sets_append, after_write, after_close, one_closing}
use Rattle.composing.specs.declared.types.Failure.{Failure}
use Rattle.composing.specs.declared.types.Failure.TheVariants as failure
use Rattle.composing.specs.Lines.{saying, saying_of}
use Rattle.composing.specs.Composed.{closes, answer_to, refused_at, failure_at, Composed, stopped, preceded, answered, heeded, composing, Ledger, ledger, end_ledger, on_ledger, closing_ledger}

ledger_more : (out : List ℕ) (used : ℕ) (s : Said) (c : Composed) → ledger (sets out used (spell s)) (used + length (spell s)) c ≡ ledger out used (preceded s c)
ledger_more out used s c =
    let b = sym (sets_append (spell s) (spell_all c.written) out used) in
    let n = length-append (spell s) (spell_all c.written) in
    let u : used + length (spell s) + length (spell_all c.written) ≡ used + length (spell s ++ spell_all c.written) = omega arith in
    let z = length-sets out used (spell s) in
    λ i. record { bytes = b i; reach = u i; size = z i; failed = c.failed }

-- nothing more is written
pub ledger_end : (out : List ℕ) (used : ℕ) (f : Option Failure) → end_ledger f out used ≡ ledger out used (stopped None f)
ledger_end out used f = let z = sym (add-zero used) in λ i. record { bytes = out; reach = z i; size = length out; failed = f }

-- what is open is closed, and nothing more is written
ledger_closed : (out : List ℕ) (used : ℕ) (o : Opened) (f : Option Failure)
    → end_ledger f (sets out used (spell (closing o))) (used + length (spell (closing o))) ≡ ledger out used (stopped (Some o) f)
ledger_closed out used o f =
    ledger_end (sets out used (spell (closing o))) (used + length (spell (closing o))) f ∙ ledger_more out used (closing o) (stopped None f)

pub closes_closing : (o : Opened) (s : Said) → closes o s ≡ true → s ≡ closing o
closes_closing opened.Picture erase e = absurd (false≢true e)
closes_closing opened.Picture endpic e = refl
closes_closing opened.Picture (subhed n h) e = absurd (false≢true e)
closes_closing opened.Picture subend e = absurd (false≢true e)
closes_closing opened.Picture (act a) e = absurd (false≢true e)
closes_closing (opened.Definition at) erase e = absurd (false≢true e)
closes_closing (opened.Definition at) endpic e = absurd (false≢true e)
closes_closing (opened.Definition at) (subhed n h) e = absurd (false≢true e)
closes_closing (opened.Definition at) subend e = refl
closes_closing (opened.Definition at) (act a) e = absurd (false≢true e)

-- one statement, with something open
module _ (out : List ℕ) (o : Opened) (ns : List (List ℕ)) (used number : ℕ) (further : State → Composed) where
  abbrev pub stated : Said → Ledger
  stated s = ledger out used (heeded (length out) (busy o ns used) number (saying s) further)

  by_answer : (s : Said) (r : Result (Unit {0}) Refusal) → closes o s ≡ false → r ≡ write_answer o used (length out) s → ledger out used (answered r (busy o ns used) number s further) ≡ stated s
  by_answer s r c e = ap (λ a. ledger out used (answered a (busy o ns used) number s further)) (e ∙ ap (λ b. cond b (Ok tt) (write_answer o used (length out) s)) (sym c))

  pub stated_written : (s : Said) → closes o s ≡ false → Ok tt ≡ write_answer o used (length out) s
      → ledger (sets out used (spell s)) (used + length (spell s)) (further (busy o ns (used + length (spell s)))) ≡ stated s
  stated_written s c e =
      let w = writes o used (length out) s (sym e) in
      ap (λ st. ledger (sets out used (spell s)) (used + length (spell s)) (further st)) (sym (after_write (busy o ns used) s w.unframed))
      ∙ ledger_more out used s (further (after (busy o ns used) s))
      ∙ by_answer s (Ok tt) c e

  pub stated_refused : (s : Said) (f : Refusal) → closes o s ≡ false → Err f ≡ write_answer o used (length out) s → ledger out used (stopped (Some o) (Some (failure.Refused f number))) ≡ stated s
  stated_refused s f c e = by_answer s (Err f) c e

  pub stated_closing : (s : Said) → closes o s ≡ true → ledger out used (preceded (closing o) (further (after (busy o ns used) (closing o)))) ≡ stated s
  stated_closing s c =
      ap (λ z. ledger out used (preceded z (further (after (busy o ns used) z)))) (sym (closes_closing o s c))
      ∙ ap (λ b. ledger out used (answered (cond b (Ok tt) (write_answer o used (length out) s)) (busy o ns used) number s further)) (sym c)

-- the book of what goes on after a statement
pub goes_on : {out out' : List ℕ} {o o' : Opened} {ns ns' : List (List ℕ)} {used used' : ℕ} (size number : ℕ) (rest : List (List ℕ)) → out' ≡ out → length out ≡ size → o' ≡ o → ns' ≡ ns → used' ≡ used
    → on_ledger None out' (busy o' ns' used') number rest ≡ ledger out used (composing size (busy o ns used) number rest)
goes_on size number rest e z p q g = λ i. ledger (e i) (g i) (composing ((ap length e ∙ z) i) (busy (p i) (q i) (g i)) number rest)

-- what is open is closed
pub closed_ledger : (out out' : List ℕ) (o : Opened) (ns ns' : List (List ℕ)) (used used' number : ℕ) (rest : List (List ℕ)) (f : Option Failure)
    → out' ≡ sets out used (spell (closing o)) → ns' ≡ ns → used' ≡ used + 1
    → on_ledger f out' (idle ns' used') number rest ≡ closing_ledger f out o ns used number rest
closed_ledger out out' o ns ns' used used' number rest f e q g = by f
  where
    one : length (spell (closing o)) ≡ 1
    one = one_closing o

    at : used' ≡ used + length (spell (closing o))
    at = let n = one in omega arith

    by : (f : Option Failure) → on_ledger f out' (idle ns' used') number rest ≡ closing_ledger f out o ns used number rest
    by None =
        let end = spell (closing o) in
        (λ i. on_ledger None (e i) (idle (q i) (at i)) number rest)
        ∙ ap (λ m. ledger (sets out used end) (used + length end) (composing m (idle ns (used + length end)) number rest)) (length-sets out used end)
        ∙ ap (λ z. ledger (sets out used end) (used + length end) (composing (length out) z number rest)) (sym (after_close o ns used))
        ∙ ledger_more out used (closing o) (composing (length out) (after (busy o ns used) (closing o)) number rest)
    by (Some x) = (λ i. end_ledger (Some x) (e i) (at i)) ∙ ledger_closed out used o (Some x)

-- one statement, with nothing open
module _ (out : List ℕ) (ns : List (List ℕ)) (used number : ℕ) (rest : List (List ℕ)) (s : Said) where
  abbrev pub begun : Ledger
  begun = ledger out used (heeded (length out) (idle ns used) number (saying s) (λ st. composing (length out) st number rest))

  pub begun_opened : (out' : List ℕ) (o' : Opened) (ns' : List (List ℕ)) (used' : ℕ) → answer_to (length out) (idle ns used) None s ≡ Ok tt → out' ≡ sets out used (spell s) → busy o' ns' used' ≡ after (idle ns used) s
      → on_ledger None out' (busy o' ns' used') number rest ≡ begun
  begun_opened out' o' ns' used' a e b =
      (λ i. on_ledger None (e i) (b i) number rest)
      ∙ ap (λ m. ledger (sets out used (spell s)) (used + length (spell s)) (composing m (after (idle ns used) s) number rest)) (length-sets out used (spell s))
      ∙ ledger_more out used s (composing (length out) (after (idle ns used) s) number rest)
      ∙ ap (λ r. ledger out used (answered r (idle ns used) number s (λ st. composing (length out) st number rest))) (sym a)

  pub begun_refused : (f : Refusal) → answer_to (length out) (idle ns used) None s ≡ Err f → end_ledger (Some (failure.Refused f number)) out used ≡ begun
  begun_refused f a =
      ledger_end out used (Some (failure.Refused f number)) ∙ ap (λ r. ledger out used (answered r (idle ns used) number s (λ st. composing (length out) st number rest))) (sym a)

-- words of a line that opens nothing
none_some : (f : Failure) → ◌≡◌ {A = Option Failure} None (Some f) → ⊥
none_some f e = let z : ◌≡◌ {A = ℕ} 0 1 = cc in omega arith

pub begun_failed : (out : List ℕ) (ns : List (List ℕ)) (used number : ℕ) (rest : List (List ℕ)) (ws : Option Said) (f : Failure) → failure_at (length out) (idle ns used) ws number ≡ Some f
    → end_ledger (Some f) out used ≡ ledger out used (heeded (length out) (idle ns used) number (saying_of ws) (λ st. composing (length out) st number rest))
begun_failed out ns used number rest None f e = ap (λ z. end_ledger z out used) (sym e) ∙ ledger_end out used (Some (failure.Unreadable number))
begun_failed out ns used number rest (Some s) f e = by (answer_to (length out) (idle ns used) None s) refl e
  where
    by : (r : Result (Unit {0}) Refusal) → answer_to (length out) (idle ns used) None s ≡ r → refused_at r number ≡ Some f → end_ledger (Some f) out used ≡ begun out ns used number rest s
    by (Ok x) a e = absurd (none_some f e)
    by (Err g) a e = ap (λ z. end_ledger z out used) (sym e) ∙ begun_refused out ns used number rest s g a

-- a composing that has failed, and one that goes on
pub failed_end : (r : Result (Unit {0}) Failure) (out : List ℕ) (st : State) (n : ℕ) (rest : List (List ℕ)) → is_err r ≡ true → end_ledger (result_err r) out st.filled ≡ on_ledger (result_err r) out st n rest
failed_end (Ok x) out st n rest e = absurd (false≢true e)
failed_end (Err f) out st n rest e = refl

pub went_on : (r : Result (Unit {0}) Failure) (out : List ℕ) (st : State) (n : ℕ) (rest : List (List ℕ)) → is_err r ≡ false → on_ledger None out st n rest ≡ on_ledger (result_err r) out st n rest
went_on (Ok x) out st n rest e = refl
went_on (Err f) out st n rest e = absurd (true≢false e)
