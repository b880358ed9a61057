-- What is composed is lawful where it stands, and what its lines say.
use Rattle.std.proofs.Common.{◌≡◌, ℕ, ◌+◌, Bool, true, false, cond, List, [], ◌∷◌, map, Some, None, Ok, Err, Option, Result, sym, refl, ap, ◌∙◌, subst, arith}
use Rattle.statement.specs.declared.types.Header.{Header}
use Rattle.statement.specs.declared.types.Header.TheVariants as header
use Rattle.statement.specs.declared.types.Standing.TheVariants.{Outside}
use Rattle.statement.specs.Statements.{Said, erase, endpic, subhed, subend, act}
use Rattle.statement.specs.Reading.{header_byte}
use Rattle.spelling.specs.Laws.{standing_after}
use Rattle.writer.specs.declared.types.Opened.{Opened}
use Rattle.writer.specs.declared.types.Refusal.{Refusal}
use Rattle.writer.specs.Answers.{write_answer, heading}
use Rattle.writer.proofs.Judged.{writes, heads}
use Rattle.history.specs.Tales.{State, after}
use Rattle.history.proofs.Accepts.{standing_of, Goes, goes_write, goes_heading, goes_picture, goes_close, Told, ending_told, goes_told}
use Rattle.composing.specs.declared.types.Failure.{Failure}
use Rattle.composing.specs.Lines.{Line, silent, unreadable, saying, heard}
use Rattle.composing.specs.Composed.{closes, answer_to, Composed, stopped, unfinished, answered, heeded, composing}
use Rattle.composing.specs.Laws.{unless_silent, spoken}
use Rattle.composing.proofs.Ledgers.{closes_closing}

never_fine : (e : Refusal) → ◌≡◌ {A = Result (Unit {0}) Refusal} (Err e) (Ok tt) → ⊥
never_fine e p = let z : ◌≡◌ {A = ℕ} 0 1 = cc in omega arith

some_none : (f : Failure) → ◌≡◌ {A = Option Failure} (Some f) None → ⊥
some_none f p = let z : ◌≡◌ {A = ℕ} 0 1 = cc in omega arith

headed_so : (m : List ℕ) (h : Header) → heading m (header_byte h) ≡ subhed m h
headed_so m header.Simple = refl
headed_so m header.Full = refl
headed_so m header.Both = refl

inside_goes : (size : ℕ) (o : Opened) (ns : List (List ℕ)) (n : ℕ) (s : Said) (b : Bool) → closes o s ≡ b → cond b (Ok tt) (write_answer o n size s) ≡ Ok tt → Goes (Some o) ns n s
inside_goes size o ns n s true c e = subst (Goes (Some o) ns n) (sym (closes_closing o s c)) (goes_close o ns n)
inside_goes size o ns n s false c e = let w = writes o n size s e in goes_write o ns n s w.unframed w.lawful w.short

-- a statement that the writer takes
answer_goes : (size : ℕ) (o : Option Opened) (ns : List (List ℕ)) (n : ℕ) (s : Said) → answer_to size (record { inside = o; named = ns; filled = n }) o s ≡ Ok tt → Goes o ns n s
answer_goes size None ns n erase e = goes_picture ns n
answer_goes size None ns n endpic e = absurd (never_fine _ e)
answer_goes size None ns n (subhed m h) e =
    let q = heads ns n size m (header_byte h) e in
    subst (Goes None ns n) (headed_so m h) (goes_heading ns n m (header_byte h) q.lawful q.known)
answer_goes size None ns n subend e = absurd (never_fine _ e)
answer_goes size None ns n (act a) e = absurd (never_fine _ e)
answer_goes size (Some o) ns n s e = inside_goes size o ns n s (closes o s) refl e

-- what holds of all that is composed holds of a line and what comes after it
module _ (size : ℕ) (st : State) (number : ℕ) (further : State → Composed) (others : (st' : State) → Told st' (further st').written) where
  answered_told : (s : Said) (a : Result (Unit {0}) Refusal) → answer_to size st st.inside s ≡ a → Told st (answered a st number s further).written
  answered_told s (Ok x) e = goes_told st s (further (after st s)).written (answer_goes size st.inside st.named st.filled s e) (others (after st s))
  answered_told s (Err f) e = ending_told st.inside st.named st.filled

  heeded_told : (h : Line) → Told st (heeded size st number h further).written
  heeded_told silent = others st
  heeded_told unreadable = ending_told st.inside st.named st.filled
  heeded_told (saying s) = answered_told s (answer_to size st st.inside s) refl

pub composing_told : (size : ℕ) (ls : List (List ℕ)) (st : State) (n : ℕ) → Told st (composing size st n ls).written
composing_told size [] st n = ending_told st.inside st.named st.filled
composing_told size (l ∷ ls) st n =
    heeded_told size st (n + 1) (λ st'. composing size st' (n + 1) ls) (λ st'. composing_told size ls st' (n + 1)) (heard l)

-- statements that the writer takes, one after the other, with nothing left open
abbrev pub Takes : ℕ → State → List Said → Type 0
Takes size st [] = st.inside ≡ None
Takes size st (s ∷ ss) = (answer_to size st st.inside s ≡ Ok tt) × Takes size (after st s) ss

-- the statements that lines say, where composing does not fail, and that nothing is left open
pub record Spoken (size : ℕ) (st : State) (ls : List Line) (ss : List Said) : Type 0 where
  pub says : ls ≡ map saying ss
  pub outside : standing_after (standing_of st.inside) ss ≡ Outside
  pub takes : Takes size st ss

ended : (size : ℕ) (o : Option Opened) (ns : List (List ℕ)) (k n : ℕ) → unfinished o n ≡ None → Spoken size (record { inside = o; named = ns; filled = k }) [] (stopped o (unfinished o n)).written
ended size None ns k n e = record { says = refl; outside = refl; takes = refl }
ended size (Some o) ns k n e = absurd (some_none _ e)

module _ (size : ℕ) (st : State) (number : ℕ) (further : State → Composed) (ls : List Line) (others : (st' : State) → (further st').failed ≡ None → Spoken size st' ls (further st').written) where
  answered_spoken : (s : Said) (a : Result (Unit {0}) Refusal) → answer_to size st st.inside s ≡ a → (answered a st number s further).failed ≡ None
      → Spoken size st (saying s ∷ ls) (answered a st number s further).written
  answered_spoken s (Ok x) e f =
      let p = others (after st s) f in
      let g = answer_goes size st.inside st.named st.filled s e in
      record { says = ap (λ z. saying s ∷ z) p.says; outside = ap (λ z. standing_after z (further (after st s)).written) g.onto ∙ p.outside; takes = (e, p.takes) }
  answered_spoken s (Err x) e f = absurd (some_none _ f)

  heeded_spoken : (h : Line) → (heeded size st number h further).failed ≡ None → Spoken size st (unless_silent h ls) (heeded size st number h further).written
  heeded_spoken silent f = others st f
  heeded_spoken unreadable f = absurd (some_none _ f)
  heeded_spoken (saying s) f = answered_spoken s (answer_to size st st.inside s) refl f

pub composing_spoken : (size : ℕ) (ls : List (List ℕ)) (st : State) (n : ℕ) → (composing size st n ls).failed ≡ None → Spoken size st (spoken ls) (composing size st n ls).written
composing_spoken size [] st n f = ended size st.inside st.named st.filled n f
composing_spoken size (l ∷ ls) st n f =
    heeded_spoken size st (n + 1) (λ st'. composing size st' (n + 1) ls) (spoken ls) (λ st'. composing_spoken size ls st' (n + 1)) (heard l) f
