-- Two performances of the same act, at any count, depth, offset and open names, agree where neither is refused.
use Rattle.std.proofs.Common.{◌≡◌, ℕ, zero, suc, ◌+◌, Bool, true, false, cond, leb, List, [], ◌∷◌, ◌++◌, length, Some, None, Option, sym, refl, ap, ◌∙◌}
use Rattle.statement.specs.Statements.{Act, plain, call, erase, endpic, subhed, subend, act}
use Rattle.statement.specs.Reading.{Shape, more, refused, whole, reading}
use Rattle.run.specs.declared.types.Fault.{Fault}
use Rattle.run.specs.declared.types.Fault.TheVariants as fault
use Rattle.run.specs.declared.types.Spot.{Spot}
use Rattle.run.specs.Inks.{Ink}
use Rattle.run.specs.Performing.{Trouble, Out, Entry, arrive, failed, after, after_refusal, counted, find, is_among, is_simple, in_body, on_play, play, called, acted, bodies, perform}

-- nothing was refused
abbrev pub fine : Out → Type 0
fine o = o.refusal ≡ None

pub never : {X : Type 0} {t : Trouble} → ◌≡◌ {A = Option Trouble} (Some t) None → X
never e = cc

-- from one ink, at any two counts, they end in one ink where neither is refused
abbrev pub Agreeing : (Ink → ℕ → Out) → (Ink → ℕ → Out) → Type 0
Agreeing F G = (i : Ink) (k l : ℕ) → fine (F i k) → fine (G i l) → (F i k).ink ≡ (G i l).ink

after_fine_at : (r : Option Trouble) (o : Out) (f : Ink → ℕ → Out) → o.refusal ≡ r → fine (after_refusal r o f)
    → fine o × fine (f o.ink o.count) × (after_refusal r o f ≡ f o.ink o.count)
after_fine_at None o f e h = (e, h, refl)
after_fine_at (Some x) o f e h = cc

pub after_fine : (o : Out) (f : Ink → ℕ → Out) → fine (after o f) → fine o × fine (f o.ink o.count) × (after o f ≡ f o.ink o.count)
after_fine o f h = after_fine_at o.refusal o f refl h

pub agree_after : (o q : Out) (f g : Ink → ℕ → Out) → (fine o → fine q → o.ink ≡ q.ink) → Agreeing f g
    → fine (after o f) → fine (after q g) → (after o f).ink ≡ (after q g).ink
agree_after o q f g e a h j =
    let u = after_fine o f h in
    let v = after_fine q g j in
    let s : o.ink ≡ q.ink = e u.0 v.0 in
    let w : fine (g o.ink q.count) = ap (λ z. (g z q.count).refusal) s ∙ v.1 in
    ap (λ z. z.ink) u.2 ∙ a o.ink o.count q.count u.1 w ∙ ap (λ z. (g z q.count).ink) s ∙ sym (ap (λ z. z.ink) v.2)

-- what stands behind a test that refuses
pub cond_fine : (t : Bool) (f : Fault) (s : Spot) (i : Ink) (k : ℕ) (o : Out) → fine (cond t (failed f s i k) o) → fine o × (cond t (failed f s i k) o ≡ o)
cond_fine true f s i k o h = cc
cond_fine false f s i k o h = (h, refl)

-- what stands before a refusal
pub cond_fine_else : (t : Bool) (f : Fault) (s : Spot) (i : Ink) (k : ℕ) (o : Out) → fine (cond t o (failed f s i k)) → fine o × (cond t o (failed f s i k) ≡ o)
cond_fine_else true f s i k o h = (h, refl)
cond_fine_else false f s i k o h = cc

-- two outcomes behind tests of their own
pub agree_same : (o o' q q' : Out) → fine o × (o' ≡ o) → fine q × (q' ≡ q) → (fine o → fine q → o.ink ≡ q.ink) → o'.ink ≡ q'.ink
agree_same o o' q q' u v a = ap (λ z. z.ink) u.1 ∙ a u.0 v.0 ∙ sym (ap (λ z. z.ink) v.1)

agree_cond : (t u : Bool) (f g : Fault) (r s : Spot) (i : Ink) (k l : ℕ) (o q : Out) → (fine o → fine q → o.ink ≡ q.ink)
    → fine (cond t (failed f r i k) o) → fine (cond u (failed g s i l) q) → (cond t (failed f r i k) o).ink ≡ (cond u (failed g s i l) q).ink
agree_cond t u f g r s i k l o q a h j = agree_same o _ q _ (cond_fine t f r i k o h) (cond_fine u g s i l q j) a

agree_counted : (r s : Spot) (F G : Ink → ℕ → Out) → Agreeing F G → Agreeing (counted r F) (counted s G)
agree_counted r s F G a i k l h j =
    agree_cond (leb 65536 k) (leb 65536 l) fault.TooMany fault.TooMany r s i k l (F i (k + 1)) (G i (l + 1)) (a i (k + 1) (l + 1)) h j

module _ (f g : ℕ → Act → Ink → ℕ → Out) (R : (o q : ℕ) (a : Act) → Agreeing (f o a) (g q a)) (m n : ℕ) where
  on_play_agree : (v w : ℕ → List ℕ → Ink → ℕ → Out) → ((o q : ℕ) (h : List ℕ) → Agreeing (v o h) (w q h))
      → (o q : ℕ) (h : List ℕ) (i : Ink) (k l : ℕ) (s : Shape)
      → fine (on_play f v m o h i k s) → fine (on_play g w n q h i l s) → (on_play f v m o h i k s).ink ≡ (on_play g w n q h i l s).ink
  on_play_agree v w ih o q h i k l more x y = ih o q h i k l x y
  on_play_agree v w ih o q h i k l (refused e) x y = refl
  on_play_agree v w ih o q h i k l (whole erase) x y = refl
  on_play_agree v w ih o q h i k l (whole endpic) x y = refl
  on_play_agree v w ih o q h i k l (whole (subhed a c)) x y = refl
  on_play_agree v w ih o q h i k l (whole subend) x y = refl
  on_play_agree v w ih o q h i k l (whole (act a)) x y =
      agree_after (f o a i k) (g q a i l) (v (o + length h) []) (w (q + length h) []) (R o q a i k l) (ih (o + length h) (q + length h) []) x y

  pub play_agree : (bs : List ℕ) (o q : ℕ) (held : List ℕ) → Agreeing (play f m bs o held) (play g n bs q held)
  play_agree [] o q held i k l x y = refl
  play_agree (b ∷ bs) o q held i k l x y =
      on_play_agree (play f m bs) (play g n bs) (play_agree bs) o q (held ++ (b ∷ [])) i k l (reading in_body (held ++ (b ∷ []))) x y

module _ (T : List Entry) where
  pub called_agree : (r s : Spot) (F G : List ℕ → Ink → ℕ → Out) → ((b : List ℕ) → Agreeing (F b) (G b)) → (o : Option Entry) → Agreeing (called r F o) (called s G o)
  called_agree r s F G R None i k l x y = refl
  called_agree r s F G R (Some e) i k l x y =
      agree_same (F e.body i k) _ (G e.body i l) _
      (cond_fine_else (is_simple e.header) fault.NotCallable r i k (F e.body i k) x)
      (cond_fine_else (is_simple e.header) fault.NotCallable s i l (G e.body i l) y)
      (R e.body i k l)

  pub acted_agree : (F G : Spot → List ℕ → List ℕ → Ink → ℕ → Out) → ((r s : Spot) (n b : List ℕ) → Agreeing (F r n b) (G s n b))
      → (r s : Spot) (a : Act) → Agreeing (acted F T r a) (acted G T s a)
  acted_agree F G R r s (plain p) i k l x y = refl
  acted_agree F G R r s (call n t) i k l x y = called_agree r s (F r n) (G s n) (R r s n) (find T n) (arrive t i) k l x y

  pub bodies_agree : (d e : ℕ) (ns ms : List (List ℕ)) (r s : Spot) (n b : List ℕ) → Agreeing (bodies d T ns r n b) (bodies e T ms s n b)
  bodies_agree zero e ns ms r s n b i k l x y = never (cond_fine (is_among n ns) fault.AlreadyOpen r i k (failed fault.TooDeep r i k) x).0
  bodies_agree (suc d) zero ns ms r s n b i k l x y = never (cond_fine (is_among n ms) fault.AlreadyOpen s i l (failed fault.TooDeep s i l) y).0
  bodies_agree (suc d) (suc e) ns ms r s n b i k l x y =
      let F = perform d T (ns ++ (n ∷ [])) in
      let G = perform e T (ms ++ (n ∷ [])) in
      agree_cond (is_among n ns) (is_among n ms) fault.AlreadyOpen fault.AlreadyOpen r s i k l
      (play F (length (ns ++ (n ∷ []))) b 0 [] i k) (play G (length (ms ++ (n ∷ []))) b 0 [] i l)
      (play_agree F G
      (λ o q a.
      agree_counted _ _ (acted (bodies d T (ns ++ (n ∷ []))) T _ a) (acted (bodies e T (ms ++ (n ∷ []))) T _ a)
      (acted_agree (bodies d T (ns ++ (n ∷ []))) (bodies e T (ms ++ (n ∷ []))) (bodies_agree d e (ns ++ (n ∷ [])) (ms ++ (n ∷ []))) _ _ a))
      _ _ b 0 0 [] i k l) x y

  -- how deep, how many and which names are open does not matter to what is not refused
  pub perform_agree : (d e : ℕ) (ns ms : List (List ℕ)) (o q : ℕ) (a : Act) → Agreeing (perform d T ns o a) (perform e T ms q a)
  perform_agree d e ns ms o q a =
      agree_counted _ _ (acted (bodies d T ns) T _ a) (acted (bodies e T ms) T _ a) (acted_agree (bodies d T ns) (bodies e T ms) (bodies_agree d e ns ms) _ _ a)
