-- What a writer accepts is lawful where it stands, and keeps the limits on bodies and names.
use Rattle.std.proofs.Common.{◌≡◌, ℕ, ◌+◌, ◌-◌, ◌≤◌, Bool, true, false, cond, not, ◌&&◌, leb, List, [], ◌∷◌, ◌++◌, length, Some, None, Ok, Err, Option, Result, sym, refl, ap, ◌∙◌, subst, inl, inr, arith}
use Rattle.std.proofs.lemmas.List.{length_push}
use Rattle.std.proofs.lemmas.Bool.{true≢false, leb-true, leb-false, and_cases}
use Rattle.statement.specs.declared.types.Home.TheVariants as home
use Rattle.statement.specs.declared.types.Standing.{Standing}
use Rattle.statement.specs.declared.types.Standing.TheVariants as standing
use Rattle.statement.specs.Statements.{Act, Said, erase, endpic, subhed, subend, act, allowed, onwards}
use Rattle.statement.specs.Views.{said_by}
use Rattle.spelling.specs.Spelling.{code_of, spell, Lawful}
use Rattle.spelling.specs.Laws.{Stand}
use Rattle.spelling.proofs.Acts.{act_allowed}
use Rattle.writer.specs.declared.types.Opened.{Opened}
use Rattle.writer.specs.declared.types.Opened.TheVariants as opened
use Rattle.history.specs.declared.operation.Operation.{Operation}
use Rattle.history.specs.declared.operation.Operation.TheVariants.{Picture, Definition, Write, Close}
use Rattle.writer.specs.declared.types.Refusal.{Refusal}
use Rattle.writer.specs.Bodies.{stays_short}
use Rattle.writer.specs.Names.{is_known, with_name, is_one_too_many}
use Rattle.writer.specs.Answers.{frames, write_answer, picture_answer, definition_answer, heading, closing}
use Rattle.history.specs.Tales.{State, idle, inside_after, named_after, after, where_fine, taken, onward, ending, tale}
use Rattle.history.specs.Laws.{ShortBodies, defined, AcceptsLawful, AcceptsWithinLimits}
use Rattle.writer.proofs.Judged.{writes, heads}

abbrev pub standing_of : Option Opened → Standing
standing_of None = standing.Outside
standing_of (Some opened.Picture) = standing.Picture
standing_of (Some (opened.Definition at)) = standing.Definition home.Outside

-- the bytes of the body so far, where one is open
abbrev pub body_so_far : Option Opened → ℕ → Option ℕ
body_so_far None n = None
body_so_far (Some opened.Picture) n = None
body_so_far (Some (opened.Definition at)) n = Some (n - at)

abbrev pub Begun : Option Opened → ℕ → Type 0
Begun None n = Unit {0}
Begun (Some opened.Picture) n = Unit {0}
Begun (Some (opened.Definition at)) n = at ≤ n

-- a statement that is accepted where this is open, these names are known and so many bytes are used
pub record Goes (o : Option Opened) (ns : List (List ℕ)) (n : ℕ) (s : Said) : Type 0 where
  pub lawful : Lawful s
  pub may : allowed (standing_of o) (code_of s) ≡ true
  pub onto : onwards (standing_of o) s ≡ standing_of (inside_after s (n + length (spell s)) o)
  pub begun : Begun o n → Begun (inside_after s (n + length (spell s)) o) (n + length (spell s))
  pub short : Begun o n → (ss : List Said) → ShortBodies (body_so_far (inside_after s (n + length (spell s)) o) (n + length (spell s))) ss → ShortBodies (body_so_far o n) (s ∷ ss)
  pub few : length ns ≤ 32 → length (named_after s ns) ≤ 32

few_more : (ns : List (List ℕ)) (m : List ℕ) → is_one_too_many ns m ≡ false → length ns ≤ 32 → length (with_name ns m) ≤ 32
few_more ns m e h = by (is_known m ns) refl
  where
    by : (b : Bool) → is_known m ns ≡ b → length (cond b ns (ns ++ m ∷ [])) ≤ 32
    by true k = h
    by false k =
        elim (and_cases (leb 32 (length ns)) true (ap (λ b. leb 32 (length ns) && not b) (sym k) ∙ e)) [
          | inl f ↦ omega (arith, length_push ns m, leb-false 32 (length ns) f)
          | inr f ↦ absurd (true≢false f)
        ]

goes_act : (o : Opened) (ns : List (List ℕ)) (n : ℕ) (a : Act) → Lawful (act a) → stays_short o n (length (spell (act a))) ≡ true → Goes (Some o) ns n (act a)
goes_act opened.Picture ns n a l h =
    record { lawful = l; may = (act_allowed home.Outside a).0; onto = refl; begun = λ b. tt; short = λ b ss k. k; few = λ k. k }
goes_act (opened.Definition at) ns n a l h =
    let few = leb-true (n - at + length (spell (act a))) 1024 h in
    record {
      lawful = l;
      may = (act_allowed home.Outside a).1;
      onto = refl;
      begun = λ b. omega arith;
      short = λ b ss k.
          let e : n + length (spell (act a)) - at ≡ n - at + length (spell (act a)) = omega arith in
          (few, subst (λ z. ShortBodies (Some z) ss) e k);
      few = λ k. k;
    }

pub goes_write : (o : Opened) (ns : List (List ℕ)) (n : ℕ) (s : Said) → frames s ≡ false → Lawful s → stays_short o n (length (spell s)) ≡ true → Goes (Some o) ns n s
goes_write o ns n erase e l h = absurd (true≢false e)
goes_write o ns n endpic e l h = absurd (true≢false e)
goes_write o ns n (subhed m x) e l h = absurd (true≢false e)
goes_write o ns n subend e l h = absurd (true≢false e)
goes_write o ns n (act a) e l h = goes_act o ns n a l h

pub goes_heading : (ns : List (List ℕ)) (n : ℕ) (m : List ℕ) (h : ℕ) → Lawful (heading m h) → is_one_too_many ns m ≡ false → Goes None ns n (heading m h)
goes_heading ns n m h l k =
    let at = n + length (spell (heading m h)) in
    record {
      lawful = l;
      may = refl;
      onto = refl;
      begun = λ b. omega arith;
      short = λ b ss x. let e : at - at ≡ 0 = omega arith in subst (λ z. ShortBodies (Some z) ss) e x;
      few = λ x. few_more ns m k x;
    }

pub goes_picture : (ns : List (List ℕ)) (n : ℕ) → Goes None ns n erase
goes_picture ns n = record { lawful = refl; may = refl; onto = refl; begun = λ b. tt; short = λ b ss k. k; few = λ k. k }

pub goes_close : (o : Opened) (ns : List (List ℕ)) (n : ℕ) → Goes (Some o) ns n (closing o)
goes_close opened.Picture ns n = record { lawful = refl; may = refl; onto = refl; begun = λ b. tt; short = λ b ss k. k; few = λ k. k }
goes_close (opened.Definition at) ns n = record { lawful = refl; may = refl; onto = refl; begun = λ b. tt; short = λ b ss k. k; few = λ k. k }

fine_is : (r : Result (Unit {0}) Refusal) (s s' : Said) → where_fine r s ≡ Some s' → (r ≡ Ok tt) × (s ≡ s')
fine_is (Ok x) s s' e = (refl, cc)
fine_is (Err f) s s' e = let z : ◌≡◌ {A = ℕ} 0 1 = cc in absurd (omega arith)

none_some : (s : Said) → None ≡ Some s → ⊥
none_some s e = let z : ◌≡◌ {A = ℕ} 0 1 = cc in omega arith

taken_goes : (size : ℕ) (o : Option Opened) (ns : List (List ℕ)) (n : ℕ) (op : Operation) (s : Said) → taken size (record { inside = o; named = ns; filled = n }) o op ≡ Some s → Goes o ns n s
taken_goes size None ns n Picture s e =
    let p = fine_is (picture_answer n size) erase s e in
    subst (Goes None ns n) p.1 (goes_picture ns n)
taken_goes size None ns n (Definition m h) s e =
    let p = fine_is (definition_answer ns n size m.now h) (heading m.now h) s e in
    let q = heads ns n size m.now h p.0 in
    subst (Goes None ns n) p.1 (goes_heading ns n m.now h q.lawful q.known)
taken_goes size None ns n (Write x) s e = absurd (none_some s e)
taken_goes size None ns n Close s e = absurd (none_some s e)
taken_goes size (Some o) ns n Picture s e = absurd (none_some s e)
taken_goes size (Some o) ns n (Definition m h) s e = absurd (none_some s e)
taken_goes size (Some o) ns n (Write x) s e =
    let p = fine_is (write_answer o n size (said_by x)) (said_by x) s e in
    let q = writes o n size (said_by x) p.0 in
    subst (Goes (Some o) ns n) p.1 (goes_write o ns n (said_by x) q.unframed q.lawful q.short)
taken_goes size (Some o) ns n Close s e = let p : closing o ≡ s = cc in subst (Goes (Some o) ns n) p (goes_close o ns n)

-- what is told from a state on
pub record Told (st : State) (ss : List Said) : Type 0 where
  pub stands : Stand (standing_of st.inside) ss
  pub short : Begun st.inside st.filled → ShortBodies (body_so_far st.inside st.filled) ss
  pub few : length st.named ≤ 32 → length (defined st.named ss) ≤ 32

pub ending_told : (o : Option Opened) (ns : List (List ℕ)) (n : ℕ) → Told (record { inside = o; named = ns; filled = n }) (ending o)
ending_told None ns n = record { stands = tt; short = λ b. tt; few = λ k. k }
ending_told (Some opened.Picture) ns n = record { stands = (refl, refl, tt); short = λ b. tt; few = λ k. k }
ending_told (Some (opened.Definition at)) ns n = record { stands = (refl, refl, tt); short = λ b. tt; few = λ k. k }

-- a statement that is accepted, and what is told after it
pub goes_told : (st : State) (s : Said) (ss : List Said) → Goes st.inside st.named st.filled s → Told (after st s) ss → Told st (s ∷ ss)
goes_told st s ss g t =
    record {
      stands = (g.lawful, g.may, subst (λ z. Stand z ss) (sym g.onto) t.stands);
      short = λ b. g.short b ss (t.short (g.begun b));
      few = λ k. t.few (g.few k);
    }

first_told : (size : ℕ) (op : Operation) (ops : List Operation) (st : State) → ((st' : State) → Told st' (tale size st' ops))
    → (o : Option Said) → taken size st st.inside op ≡ o → Told st (onward o st (λ st'. tale size st' ops))
first_told size op ops st others None e = others st
first_told size op ops st others (Some s) e =
    goes_told st s (tale size (after st s) ops) (taken_goes size st.inside st.named st.filled op s e) (others (after st s))

tale_told : (size : ℕ) (ops : List Operation) (st : State) → Told st (tale size st ops)
tale_told size [] st = ending_told st.inside st.named st.filled
tale_told size (op ∷ ops) st = first_told size op ops st (λ st'. tale_told size ops st') (taken size st st.inside op) refl

pub accepts_lawful : AcceptsLawful
accepts_lawful n ops = (tale_told n ops (idle [] 0)).stands

pub accepts_within_limits : AcceptsWithinLimits
accepts_within_limits n ops = let t = tale_told n ops (idle [] 0) in (t.short tt, t.few (omega arith))
