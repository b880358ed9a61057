-- Every body is whole lawful statements.
use Rattle.std.proofs.Common.{◌≡◌, ℕ, ◌+◌, ◌<◌, Bool, true, false, cond, leb, List, [], ◌∷◌, ◌++◌, length, take, Some, sym, refl, ap, ◌∙◌, inl, inr, append_assoc, arith, length-append}
use Rattle.std.specs.List.{AllByRecursion}
use Rattle.std.proofs.ByRecursion.{All-push}
use Rattle.std.proofs.lemmas.List.{append-nil, take_at, take-append-le}
use Rattle.std.proofs.lemmas.Bool.{cases_lt}
use Rattle.statement.specs.declared.types.Header.{Header}
use Rattle.statement.specs.declared.types.Home.{Home}
use Rattle.statement.specs.declared.types.Home.TheVariants as home
use Rattle.statement.specs.declared.types.Standing.{Standing}
use Rattle.statement.specs.declared.types.Standing.TheVariants.{Outside, Picture, Definition}
use Rattle.statement.specs.Statements.{Act, Said, erase, endpic, subhed, subend, act}
use Rattle.statement.specs.Reading.{Shape, more, refused, whole, reading}
use Rattle.spelling.specs.Spelling.{spell, Lawful}
use Rattle.spelling.specs.Walking.{longest_stream}
use Rattle.spelling.specs.Laws.{Reads}
use Rattle.spelling.proofs.Spelt.{spelt_once}
use Rattle.run.specs.declared.types.Fault.{Fault}
use Rattle.run.specs.declared.types.Fault.TheVariants as fault
use Rattle.run.specs.declared.types.Life.{Life}
use Rattle.run.specs.declared.types.Life.TheVariants.{Live, Closed, Refused}
use Rattle.run.specs.Inks.{Ink}
use Rattle.run.specs.Performing.{Entry, same_bytes, find}
use Rattle.run.specs.Runs.{Stance, outside, picture, defining, Drawing, Config, refusing, stance_as, home_stance, store, is_full, opening, recording, heeding, one_more, code_place, reads, too_long, step_live, step, run, begun}
use Rattle.run.specs.Bodies.{spell_acts, AllLawful, Whole, AllWhole, WholeSoFar, BodiesWhole}
use Rattle.run.specs.Written.{body_of, body_now}

abbrev pub Bytes : List ℕ → Type 0
Bytes bs = AllByRecursion (λ b. b < 256) bs

-- bytes at each front of which, the whole included, more is wanted
pub record Begins (st : Standing) (h : List ℕ) : Type 0 where
  pub bytes : Bytes h
  pub front : (k : ℕ) → k < length h → reading st (take k h) ≡ more
  pub all : reading st h ≡ more

nothing_begun : (st : Standing) → Begins st []
nothing_begun st = record { bytes = tt; front = λ k l. absurd (omega (arith, l)); all = refl }

module _ (st : Standing) (h : List ℕ) (b : ℕ) (g : Begins st h) where
  one_more_front : (k : ℕ) → k < length (h ++ (b ∷ [])) → reading st (take k (h ++ (b ∷ []))) ≡ more
  one_more_front k l =
      elim (cases_lt k (length h)) [
        | inl u ↦ rw (take-append-le k h (b ∷ []) (omega arith)) (g.front k u)
        | inr u ↦ let e : k ≡ length h = omega (arith, length-append h (b ∷ [])) in rw (e, take_at h (b ∷ []) (length h) refl) g.all
      ]

  begins_more : b < 256 → reading st (h ++ (b ∷ [])) ≡ more → Begins st (h ++ (b ∷ []))
  begins_more s e = record { bytes = All-push (λ b. b < 256) h b g.bytes s; front = one_more_front; all = e }

  reads_whole : (s : Said) → reading st (h ++ (b ∷ [])) ≡ whole s → Reads st (h ++ (b ∷ [])) s
  reads_whole s e = record { before = one_more_front; last = e }

-- one act more
spell_push : (ps : List Act) (a : Act) → spell_acts (ps ++ (a ∷ [])) ≡ spell_acts ps ++ spell (act a)
spell_push [] a = append-nil (spell (act a))
spell_push (p ∷ ps) a = ap (λ l. spell (act p) ++ l) (spell_push ps a) ∙ sym (append_assoc (spell (act p)) (spell_acts ps) (spell (act a)))

lawful_push : (ps : List Act) (a : Act) → AllLawful ps → Lawful (act a) → AllLawful (ps ++ (a ∷ []))
lawful_push [] a l m = (m, tt)
lawful_push (p ∷ ps) a l m = (l.0, lawful_push ps a l.1 m)

whole_push : (bs : List ℕ) (a : Act) (h : List ℕ) → Whole bs → Lawful (act a) → h ≡ spell (act a) → Whole (bs ++ h)
whole_push bs a h w l e = (w.0 ++ (a ∷ []), lawful_push w.0 a w.1 l, ap (λ z. bs ++ z) e ∙ ap (λ z. z ++ spell (act a)) w.2 ∙ sym (spell_push w.0 a))

whole_none : Whole []
whole_none = ([], tt, refl)

-- in a definition, what is recorded so far is whole, and the bytes held begin a statement
abbrev pub Kept : Stance → List ℕ → Type 0
Kept outside h = Unit {0}
Kept picture h = Unit {0}
Kept (defining w n e bs) h = Whole bs × Begins (Definition w) h

abbrev pub Keeping : Drawing → Type 0
Keeping d = AllWhole d.table × Kept d.stance d.held

kept_none : (s : Stance) (h : List ℕ) → Kept s h → Kept s []
kept_none outside h k = tt
kept_none picture h k = tt
kept_none (defining w n e bs) h k = (k.0, nothing_begun (Definition w))

store_at : (t : Bool) (n e : Entry) (es : List Entry) → Whole n.body → Whole e.body → AllWhole es → AllWhole (store n es) → AllWhole (cond t (n ∷ es) (e ∷ store n es))
store_at true n e es w v a s = (w, a)
store_at false n e es w v a s = (v, s)

store_whole : (n : Entry) (T : List Entry) → Whole n.body → AllWhole T → AllWhole (store n T)
store_whole n [] w a = (w, tt)
store_whole n (e ∷ es) w a = store_at (same_bytes e.name n.name) n e es w a.0 a.1 (store_whole n es w a.1)

find_at : (t : Bool) (n : List ℕ) (e : Entry) (es : List Entry) → Whole e.body → Whole (body_now es n) → Whole (body_of (cond t (Some e) (find es n)))
find_at true n e es v w = v
find_at false n e es v w = w

pub body_whole : (T : List Entry) (n : List ℕ) → AllWhole T → Whole (body_now T n)
body_whole [] n a = whole_none
body_whole (e ∷ es) n a = find_at (same_bytes e.name n) n e es a.0 (body_whole es n a.1)

module _ (d : Drawing) (a : AllWhole d.table) where
  refusing_keeps : (f : Fault) (at : ℕ) → Kept d.stance d.held → Keeping (refusing f at d)
  refusing_keeps f at k = (a, kept_none d.stance d.held k)

  cond_keeps : (t : Bool) (x y : Drawing) → Keeping x → Keeping y → Keeping (cond t x y)
  cond_keeps true x y p q = p
  cond_keeps false x y p q = q

  opening_keeps : (w : Home) (n : List ℕ) (e : Header) (at : ℕ) → Kept d.stance d.held → Keeping (opening w n e at d)
  opening_keeps w n e at k =
      cond_keeps (is_full d.table n) (refusing fault.NoRoom at d) (stance_as (defining w n e []) d) (refusing_keeps fault.NoRoom at k) (a, (whole_none, nothing_begun (Definition w)))

  recording_keeps : (w : Home) (n : List ℕ) (e : Header) (bs : List ℕ) (at : ℕ) → Kept d.stance d.held → Whole bs → Keeping (recording w n e bs at d)
  recording_keeps w n e bs at k v =
      cond_keeps (leb 1025 (length bs)) (refusing fault.NoRoom at d) (stance_as (defining w n e bs) d) (refusing_keeps fault.NoRoom at k) (a, (v, nothing_begun (Definition w)))

home_kept : (w : Home) → Kept (home_stance w) []
home_kept home.Outside = tt
home_kept home.Picture = tt

module _ (l : Life) (h : List ℕ) (p : ℕ) (i : Ink) (T : List Entry) (at k b : ℕ) (small : b < 256) (a : AllWhole T) where
  abbrev standing : Stance → Drawing
  standing s = record { life = l; held = h; stance = s; pictures = p; ink = i; table = T }

  outside_keeps : (h' : List ℕ) (s : Shape) → Keeping (heeding h' s at (standing outside) k).drawing
  outside_keeps h' more = (a, tt)
  outside_keeps h' (refused f) = (a, tt)
  outside_keeps h' (whole erase) = (a, tt)
  outside_keeps h' (whole endpic) = (a, tt)
  outside_keeps h' (whole (subhed n e)) = opening_keeps (standing outside) a home.Outside n e at tt
  outside_keeps h' (whole subend) = (a, tt)
  outside_keeps h' (whole (act x)) = (a, tt)

  picture_keeps : (h' : List ℕ) (s : Shape) → Keeping (heeding h' s at (standing picture) k).drawing
  picture_keeps h' more = (a, tt)
  picture_keeps h' (refused f) = (a, tt)
  picture_keeps h' (whole erase) = (a, tt)
  picture_keeps h' (whole endpic) = (a, tt)
  picture_keeps h' (whole (subhed n e)) = opening_keeps (standing picture) a home.Picture n e at tt
  picture_keeps h' (whole subend) = (a, tt)
  picture_keeps h' (whole (act x)) = (a, tt)

  module _ (w : Home) (n : List ℕ) (e : Header) (bs : List ℕ) (v : Whole bs) (g : Begins (Definition w) h) where
    defining_keeps : (s : Shape) → reading (Definition w) (h ++ (b ∷ [])) ≡ s → Keeping (heeding (h ++ (b ∷ [])) s at (standing (defining w n e bs)) k).drawing
    defining_keeps more q = (a, (v, begins_more (Definition w) h b g small q))
    defining_keeps (refused f) q = (a, (v, nothing_begun (Definition w)))
    defining_keeps (whole erase) q = (a, (v, nothing_begun (Definition w)))
    defining_keeps (whole endpic) q = (a, (v, nothing_begun (Definition w)))
    defining_keeps (whole (subhed m f)) q = (a, (v, nothing_begun (Definition w)))
    defining_keeps (whole subend) q = (store_whole (record { name = n; header = e; body = bs }) T v a, home_kept w)
    defining_keeps (whole (act x)) q =
        let o = spelt_once (Definition w) (h ++ (b ∷ [])) (act x) (All-push (λ z. z < 256) h b g.bytes small) (reads_whole (Definition w) h b g (act x) q) in
        recording_keeps (standing (defining w n e bs)) a w n e (bs ++ (h ++ (b ∷ []))) at (v, g) (whole_push bs x (h ++ (b ∷ [])) v o.1 o.0)

  byte_keeps : (s : Stance) → Kept s h → Keeping (one_more at (standing s) k b).drawing
  byte_keeps outside q = outside_keeps (h ++ (b ∷ [])) (reading Outside (h ++ (b ∷ [])))
  byte_keeps picture q = picture_keeps (h ++ (b ∷ [])) (reading Picture (h ++ (b ∷ [])))
  byte_keeps (defining w n e bs) q = defining_keeps w n e bs q.0 q.1 (reading (Definition w) (h ++ (b ∷ []))) refl

limit_keeps : (t : Bool) (c d : Config) → Keeping c.drawing → Keeping d.drawing → Keeping (cond t (too_long c) d).drawing
limit_keeps true c d p q = (p.0, kept_none c.drawing.stance c.drawing.held p.1)
limit_keeps false c d p q = q

step_live_keeps : (l : Life) (c : Config) (b : ℕ) → b < 256 → Keeping c.drawing → Keeping (step_live l c b).drawing
step_live_keeps Live c b s q =
    let d = c.drawing in
    limit_keeps (leb longest_stream c.read) c (reads (c.read + 1) (one_more (code_place c) d c.count b)) q
    (byte_keeps d.life d.held d.pictures d.ink d.table (code_place c) c.count b s q.0 d.stance q.1)
step_live_keeps Closed c b s q = q
step_live_keeps (Refused f) c b s q = q

pub step_keeps : (c : Config) (b : ℕ) → b < 256 → Keeping c.drawing → Keeping (step c b).drawing
step_keeps c b s q = step_live_keeps c.drawing.life c b s q

pub run_keeps : (c : Config) (bs : List ℕ) → Bytes bs → Keeping c.drawing → Keeping (run c bs).drawing
run_keeps c [] s q = q
run_keeps c (b ∷ bs) s q = run_keeps (step c b) bs s.1 (step_keeps c b s.0 q)

so_far : (s : Stance) (h : List ℕ) → Kept s h → WholeSoFar s
so_far outside h q = tt
so_far picture h q = tt
so_far (defining w n e bs) h q = q.0

pub bodies_whole : BodiesWhole
bodies_whole m bs s =
    let q = run_keeps (begun m) bs s (tt, tt) in
    (q.0, so_far (run (begun m) bs).drawing.stance (run (begun m) bs).drawing.held q.1)
