-- What the spelling of one lawful act does, byte by byte, in a body and in a picture.
use Rattle.std.proofs.Common.{◌≡◌, ℕ, ◌+◌, true, leb, List, [], ◌∷◌, ◌++◌, length, sym, refl, ap, ◌∙◌, subst, append_assoc, arith, length-append}
use Rattle.std.proofs.lemmas.List.{append-nil, take_at}
use Rattle.statement.specs.declared.types.Home.TheVariants as home
use Rattle.statement.specs.declared.types.Standing.{Standing}
use Rattle.statement.specs.declared.types.Standing.TheVariants.{Picture}
use Rattle.statement.specs.Statements.{Act, Said, act, allowed}
use Rattle.statement.specs.Reading.{more, whole, reading}
use Rattle.spelling.specs.Spelling.{code_of, spell_arguments, spell, Lawful}
use Rattle.spelling.specs.Walking.{longest_stream}
use Rattle.spelling.specs.Laws.{Reads}
use Rattle.spelling.proofs.Acts.{act_allowed}
use Rattle.spelling.proofs.Spelt.{spelt}
use Rattle.run.specs.declared.types.Life.TheVariants.{Live}
use Rattle.run.specs.Inks.{Ink}
use Rattle.run.specs.Performing.{Out, Entry, after, in_body, on_play, play, perform_top}
use Rattle.run.specs.Runs.{picture, Drawing, Config, ink_as, heeding, one_more, code_place, reads, step, run}
use Rattle.run.specs.Restated.{DrawingNow}
use Rattle.run.specs.Written.{is_refused, NotRefused}
use Rattle.run.proofs.Agreeing.{fine}
use Rattle.run.proofs.Steps.{with_counts, none_refused, below_limit, before}

-- after the bytes held, these come: more is wanted before each of them, and the last makes the statement whole
abbrev pub Coming : Standing → Said → List ℕ → List ℕ → Type 0
Coming st s h [] = reading st h ≡ whole s
Coming st s h (b ∷ bs) = (reading st h ≡ more) × Coming st s (h ++ (b ∷ [])) bs

coming : (st : Standing) (s : Said) (h bs : List ℕ) → Reads st (h ++ bs) s → Coming st s h bs
coming st s h [] r = subst (λ l. reading st l ≡ whole s) (append-nil h) r.last
coming st s h (b ∷ bs) r = (
  subst (λ l. reading st l ≡ more) (take_at h (b ∷ bs) (length h) refl) (r.before (length h) (omega (arith, length-append h (b ∷ bs)))),
  coming st s (h ++ (b ∷ [])) bs (subst (λ l. Reads st l s) (sym (append_assoc h (b ∷ []) bs)) r),
)

module _ (f : ℕ → Act → Ink → ℕ → Out) (j : ℕ) (a : Act) (xs : List ℕ) (o : ℕ) (i : Ink) (k : ℕ) where
  plays_coming : (h : List ℕ) (b : ℕ) (bs : List ℕ) → Coming in_body (act a) (h ++ (b ∷ [])) bs
      → play f j ((b ∷ bs) ++ xs) o h i k ≡ after (f o a i k) (play f j xs (o + length (h ++ (b ∷ bs))) [])
  plays_coming h b [] w = ap (on_play f (play f j xs) j o (h ++ (b ∷ [])) i k) w
  plays_coming h b (c ∷ bs) w =
      ap (on_play f (play f j ((c ∷ bs) ++ xs)) j o (h ++ (b ∷ [])) i k) w.0
      ∙ plays_coming (h ++ (b ∷ [])) c bs w.1
      ∙ ap (λ l. after (f o a i k) (play f j xs (o + length l) [])) (append_assoc h (b ∷ []) (c ∷ bs))

module _ (T : List Entry) (p : ℕ) where
  -- live, in a picture outside definitions, with these bytes held
  abbrev pub drawing_here : List ℕ → Ink → Drawing
  drawing_here h i = record { life = Live; held = h; stance = picture; pictures = p; ink = i; table = T }

  -- what is performed here went well, and the run has come to its ink
  abbrev pub Comes : Config → Out → Type 0
  Comes c o = fine o × (c.drawing ≡ drawing_here [] o.ink)

  module _ (a : Act) (i : Ink) (k : ℕ) where
    runs_last : (h h' : List ℕ) (at r : ℕ) → NotRefused (reads r (heeding h' (whole (act a)) at (drawing_here h i) k)) → Comes (reads r (heeding h' (whole (act a)) at (drawing_here h i) k)) (perform_top T a i k)
    runs_last h h' at r x =
        let t = perform_top T a i k in
        let e : fine t = none_refused at t.refusal x in
        (e, ap (ink_as at (drawing_here h i) t.ink) e)

    runs_coming : (h : List ℕ) (b : ℕ) (bs : List ℕ) (r : ℕ) → Coming Picture (act a) (h ++ (b ∷ [])) bs → NotRefused (run (with_counts (drawing_here h i) r k) (b ∷ bs))
        → Comes (run (with_counts (drawing_here h i) r k) (b ∷ bs)) (perform_top T a i k)
    runs_coming h b [] r w x =
        let c = with_counts (drawing_here h i) r k in
        let at = code_place c in
        let u = below_limit (leb longest_stream r) c (reads (r + 1) (one_more at (drawing_here h i) k b)) x in
        let v : step c b ≡ reads (r + 1) (heeding (h ++ (b ∷ [])) (whole (act a)) at (drawing_here h i) k) = u ∙ ap (λ s. reads (r + 1) (heeding (h ++ (b ∷ [])) s at (drawing_here h i) k)) w in
        let y = runs_last h (h ++ (b ∷ [])) at (r + 1) (sym (ap (λ z. is_refused z.drawing.life) v) ∙ x) in
        (y.0, ap (λ z. z.drawing) v ∙ y.1)
    runs_coming h b (d ∷ bs) r w x =
        let c = with_counts (drawing_here h i) r k in
        let at = code_place c in
        let u = below_limit (leb longest_stream r) c (reads (r + 1) (one_more at (drawing_here h i) k b)) (before (step c b) (d ∷ bs) x) in
        let v : step c b ≡ with_counts (drawing_here (h ++ (b ∷ [])) i) (r + 1) k = u ∙ ap (λ s. reads (r + 1) (heeding (h ++ (b ∷ [])) s at (drawing_here h i) k)) w.0 in
        let n = ap (λ z. run z (d ∷ bs)) v in
        let y = runs_coming (h ++ (b ∷ [])) d bs (r + 1) w.1 (sym (ap (λ z. is_refused z.drawing.life) n) ∙ x) in
        (y.0, ap (λ z. z.drawing) n ∙ y.1)

pub now_here : (d : Drawing) → DrawingNow d → d ≡ drawing_here d.table d.pictures [] d.ink
now_here d n = λ j. record { life = n.is_live j; held = n.between j; stance = n.in_picture j; pictures = d.pictures; ink = d.ink; table = d.table }

module _ (a : Act) (lawful : Lawful (act a)) where
  -- its code, and then its arguments
  comes_by : (st : Standing) → allowed st (code_of (act a)) ≡ true → Coming st (act a) (code_of (act a) ∷ []) (spell_arguments (act a))
  comes_by st ok = (coming st (act a) [] (spell (act a)) (spelt st (act a) lawful ok)).1

  pub comes_in_picture : Coming Picture (act a) (code_of (act a) ∷ []) (spell_arguments (act a))
  comes_in_picture = comes_by Picture (act_allowed home.Outside a).0

  -- in a body, an act's spelling is one statement, and the rest comes after it
  pub plays_act : (f : ℕ → Act → Ink → ℕ → Out) (j : ℕ) (xs : List ℕ) (o : ℕ) (i : Ink) (k : ℕ)
      → play f j (spell (act a) ++ xs) o [] i k ≡ after (f o a i k) (play f j xs (o + length (spell (act a))) [])
  plays_act f j xs o i k =
      plays_coming f j a xs o i k [] (code_of (act a)) (spell_arguments (act a)) (comes_by in_body (act_allowed home.Outside a).1)

  -- in a picture, an act's spelling performs it
  pub runs_act : (T : List Entry) (p : ℕ) (i : Ink) (r k : ℕ) → NotRefused (run (with_counts (drawing_here T p [] i) r k) (spell (act a)))
      → Comes T p (run (with_counts (drawing_here T p [] i) r k) (spell (act a))) (perform_top T a i k)
  runs_act T p i r k x =
      runs_coming T p a i k [] (code_of (act a)) (spell_arguments (act a)) r comes_in_picture x
