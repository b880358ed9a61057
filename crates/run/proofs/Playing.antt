-- What is performed in a body, and the bytes that do the same in a picture.
use Rattle.std.proofs.Common.{◌≡◌, ℕ, zero, suc, ◌+◌, Bool, true, false, cond, ◌&&◌, leb, List, [], ◌∷◌, ◌++◌, length, Some, None, Option, sym, refl, ap, ◌∙◌, subst}
use Rattle.geometry.specs.declared.field.Point.{Point}
use Rattle.statement.specs.declared.layout.Trace.TheVariants.{Blank}
use Rattle.statement.specs.declared.layout.Aim.TheVariants.{Absolute}
use Rattle.statement.specs.declared.types.Fault.{Fault as Unread}
use Rattle.statement.specs.declared.types.Fault.TheVariants as unread
use Rattle.statement.specs.Statements.{CallTail, empty, coded, travel, Act, plain, call, act}
use Rattle.statement.specs.Reading.{is_name, lawful_tail, named_tail}
use Rattle.spelling.specs.Spelling.{first_of, unless, tail_fits, spell, Lawful}
use Rattle.run.specs.declared.types.Fault.TheVariants as fault
use Rattle.run.specs.declared.types.Spot.{Spot}
use Rattle.run.specs.Inks.{Ink, good, stopped, point, beam_at, on_field, go}
use Rattle.run.specs.Performing.{Out, Entry, done, failed, out_of, arrive, after, counted, find, is_among, is_simple, spot_at, play, called, acted, bodies, perform}
use Rattle.run.specs.Runs.{Config, run}
use Rattle.run.specs.Bodies.{spell_acts, AllLawful, Whole}
use Rattle.run.specs.Written.{move_bytes, body_of, body_now, OpenedOut, nothing, kept, opened, is_refused, NotRefused}
use Rattle.run.proofs.Agreeing.{fine, never, after_fine, cond_fine, cond_fine_else, perform_agree}
use Rattle.run.proofs.Steps.{with_counts, before, run-++}
use Rattle.run.proofs.Spelled.{drawing_here, plays_act, runs_act}

-- where no fault is found, the third test was passed
third_passed : (t u v : Bool) (f g h : Unread) (r : Option Unread) → first_of (unless t f) (first_of (unless u g) (first_of (unless v h) r)) ≡ None → v ≡ true
third_passed true true true f g h r e = refl
third_passed true true false f g h r e = cc
third_passed true false v f g h r e = cc
third_passed false u v f g h r e = cc

lawful_tail_lem : (n : List ℕ) (t : CallTail) → Lawful (act (call n t)) → lawful_tail t ≡ true
lawful_tail_lem n t l =
    third_passed (leb (length n) 8) (tail_fits t) (lawful_tail t) unread.TooLong unread.WrongLayout unread.WrongCoordinate (unless (is_name n && named_tail t) unread.WrongCharacter) l

-- a move that is not refused has reached its point
reached : (t : Bool) (s : Spot) (p : Point) (i : Ink) (k : ℕ) → fine (out_of s (cond t (good (beam_at p i)) (stopped fault.OffField i)) k)
    → (out_of s (cond t (good (beam_at p i)) (stopped fault.OffField i)) k).ink ≡ beam_at p i
reached true s p i k x = refl
reached false s p i k x = cc

module _ (T : List Entry) (p : ℕ) where
  -- between two statements of a picture
  abbrev drawing : Ink → ℕ → ℕ → Config
  drawing i r k = with_counts (drawing_here T p [] i) r k

  -- where neither is refused, the bytes come in a picture to the ink that is performed
  abbrev pub Draws : (Ink → ℕ → Out) → List ℕ → Type 0
  Draws F zs = (i : Ink) (k r l : ℕ) → fine (F i k) → NotRefused (run (drawing i r l) zs) → (run (drawing i r l) zs).drawing ≡ drawing_here T p [] (F i k).ink

  draws_same : (F G : Ink → ℕ → Out) (zs : List ℕ) → ((i : Ink) (k : ℕ) → F i k ≡ G i k) → Draws G zs → Draws F zs
  draws_same F G zs e a i k r l x y = a i k r l (sym (ap (λ o. o.refusal) (e i k)) ∙ x) y ∙ sym (ap (λ o. drawing_here T p [] o.ink) (e i k))

  draws_then : (F G : Ink → ℕ → Out) (zs ys : List ℕ) → Draws F zs → Draws G ys → Draws (λ i k. after (F i k) G) (zs ++ ys)
  draws_then F G zs ys a b i k r l x y =
      let u = after_fine (F i k) G x in
      let c = run (drawing i r l) zs in
      let s = run-++ (drawing i r l) zs ys in
      let y' : NotRefused (run c ys) = sym (ap (λ z. is_refused z.drawing.life) s) ∙ y in
      let e : c.drawing ≡ drawing_here T p [] (F i k).ink = a i k r l u.0 (before c ys y') in
      let n : run c ys ≡ run (drawing (F i k).ink c.read c.count) ys = ap (λ d. run (with_counts d c.read c.count) ys) e in
      ap (λ z. z.drawing) (s ∙ n)
      ∙ b (F i k).ink (F i k).count c.read c.count u.1 (sym (ap (λ z. is_refused z.drawing.life) n) ∙ y')
      ∙ sym (ap (λ o. drawing_here T p [] o.ink) u.2)

  draws_counted : (s : Spot) (F : Ink → ℕ → Out) (zs : List ℕ) → Draws F zs → Draws (counted s F) zs
  draws_counted s F zs a i k r l x y =
      let u = cond_fine (leb 65536 k) fault.TooMany s i k (F i (k + 1)) x in
      a i (k + 1) r l u.0 y ∙ sym (ap (λ o. drawing_here T p [] o.ink) u.1)

  -- an act, however deep, does what its spelling does
  draws_act : (a : Act) → Lawful (act a) → (d : ℕ) (ns : List (List ℕ)) (o : ℕ) → Draws (perform d T ns o a) (spell (act a))
  draws_act a m d ns o i k r l x y =
      let c = runs_act a m T p i r l y in
      c.1 ∙ ap (drawing_here T p []) (perform_agree T 8 d [] ns 0 o a i l k c.0 x)

  -- a body, however deep, does what these bytes do
  abbrev pub StandsFor : List ℕ → List ℕ → Type 0
  StandsFor b zs = (d : ℕ) (ns : List (List ℕ)) (j o : ℕ) → Draws (play (perform d T ns) j b o []) zs

  draws_body : (b zs : List ℕ) → StandsFor b zs → (s : Spot) (d : ℕ) (ns : List (List ℕ)) (n : List ℕ) → Draws (bodies d T ns s n b) zs
  draws_body b zs a s zero ns n i k r l x y = never (cond_fine (is_among n ns) fault.AlreadyOpen s i k (failed fault.TooDeep s i k) x).0
  draws_body b zs a s (suc d) ns n i k r l x y =
      let u = cond_fine (is_among n ns) fault.AlreadyOpen s i k (play (perform d T (ns ++ (n ∷ []))) (length (ns ++ (n ∷ []))) b 0 [] i k) x in
      a d (ns ++ (n ∷ [])) (length (ns ++ (n ∷ []))) 0 i k r l u.0 y ∙ sym (ap (λ o. drawing_here T p [] o.ink) u.1)

  draws_called : (e : Option Entry) (zs : List ℕ) → StandsFor (body_of e) zs → (s : Spot) (d : ℕ) (ns : List (List ℕ)) (n : List ℕ) → Draws (called s (bodies d T ns s n) e) zs
  draws_called None zs a s d ns n i k r l x y = a 8 [] 0 0 i k r l refl y
  draws_called (Some e) zs a s d ns n i k r l x y =
      let u = cond_fine_else (is_simple e.header) fault.NotCallable s i k (bodies d T ns s n e.body i k) x in
      draws_body e.body zs a s d ns n i k r l u.0 y ∙ sym (ap (λ o. drawing_here T p [] o.ink) u.1)

  -- MOVEA to the AT point, if any
  draws_move : (t : CallTail) → lawful_tail t ≡ true → Draws (λ i k. done (arrive t i) k) (move_bytes t)
  draws_move empty m i k r l x y = refl
  draws_move (coded a None) m i k r l x y = refl
  draws_move (coded a (Some v)) m i k r l x y =
      let q : Point = point v.0 v.1 in
      let s = spot_at 0 0 in
      let c = runs_act (plain (travel Blank Absolute v.0 v.1)) (ap (λ b. unless b unread.WrongCoordinate) m) T p i r l y in
      let u = cond_fine (leb 65536 l) fault.TooMany s i l (out_of s (go Blank q i) (l + 1)) c.0 in
      c.1 ∙ ap (λ o. drawing_here T p [] o.ink) u.1 ∙ ap (drawing_here T p []) (reached (on_field q) s q i (l + 1) u.0)

  -- a call does what MOVEA and then bytes that stand for its body do
  pub draws_call : (n : List ℕ) (t : CallTail) (zs : List ℕ) → Lawful (act (call n t)) → StandsFor (body_now T n) zs
      → (d : ℕ) (ns : List (List ℕ)) (o : ℕ) → Draws (perform d T ns o (call n t)) (move_bytes t ++ zs)
  draws_call n t zs m a d ns o =
      let s = spot_at (length ns) o in
      draws_counted s (acted (bodies d T ns) T s (call n t)) (move_bytes t ++ zs)
      (draws_then (λ i k. done (arrive t i) k) (called s (bodies d T ns s n) (find T n)) (move_bytes t) zs (draws_move t (lawful_tail_lem n t m)) (draws_called (find T n) zs a s d ns n))

  -- an act and a rest of a body, and bytes for each
  draws_first : (a : Act) (xs zs ys : List ℕ) → Lawful (act a) → ((d : ℕ) (ns : List (List ℕ)) (o : ℕ) → Draws (perform d T ns o a) zs) → StandsFor xs ys
      → StandsFor (spell (act a) ++ xs) (zs ++ ys)
  draws_first a xs zs ys m u v d ns j o =
      let rest = play (perform d T ns) j xs (o + length (spell (act a))) [] in
      draws_same (play (perform d T ns) j (spell (act a) ++ xs) o []) (λ i k. after (perform d T ns o a i k) rest) (zs ++ ys) (plays_act a m (perform d T ns) j xs o)
      (draws_then (perform d T ns o a) rest zs ys (u d ns o) (v d ns j (o + length (spell (act a)))))

  -- a body does what it does with calls written out
  pub stands_opened : {xs ys : List ℕ} → OpenedOut T xs ys → StandsFor xs ys
  stands_opened nothing = λ d ns j o i k r l x y. refl
  stands_opened (kept a {xs} {ys} m w) = draws_first a xs (spell (act a)) ys m (draws_act a m) (stands_opened w)
  stands_opened (opened n t {zs} {xs} {ys} m v w) = draws_first (call n t) xs (move_bytes t ++ zs) ys m (draws_call n t zs m (stands_opened v)) (stands_opened w)

  opens_itself : (ps : List Act) → AllLawful ps → OpenedOut T (spell_acts ps) (spell_acts ps)
  opens_itself [] l = nothing
  opens_itself (a ∷ ps) l = kept a l.0 (opens_itself ps l.1)

  -- a whole body, with none of its calls written out
  pub opens_whole : (b : List ℕ) → Whole b → OpenedOut T b b
  opens_whole b w = subst (λ z. OpenedOut T z z) (sym w.2) (opens_itself w.0 w.1)
