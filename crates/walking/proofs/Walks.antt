-- Reading a stream back, statement by statement.
use Rattle.std.proofs.Common.{◌≡◌, ℕ, ◌+◌, ◌-◌, ◌<◌, ◌≤◌, cond, List, [], ◌∷◌, ◌++◌, length, get_or, take, Some, None, sym, refl, ap, ◌∙◌, subst, arith, length-append}
use Rattle.std.proofs.lemmas.List.{append-nil, append_assoc, take_all, take_more, length_push}
use Rattle.std.proofs.lemmas.List.Sums.{fold-append}
use Rattle.std.proofs.lemmas.Bool.{lt-leb}
use Rattle.statement.specs.declared.types.Fault.{Fault}
use Rattle.statement.specs.declared.types.Fault.TheVariants as fault
use Rattle.statement.specs.declared.types.Standing.{Standing}
use Rattle.statement.specs.declared.types.Standing.TheVariants.{Outside}
use Rattle.statement.specs.Statements.{Said, onwards}
use Rattle.statement.specs.Reading.{Shape, more, refused, whole, reading}
use Rattle.spelling.specs.Spelling.{spell}
use Rattle.spelling.specs.Walking.{Told, Stopped, Walk, longest_stream, place_of, stopping, heeding, going_on, walk_step, walk}
use Rattle.spelling.specs.Laws.{Reads, Stand, spell_all, placed, standing_after, StreamsReadBack}
use Rattle.spelling.proofs.Settles.{stays_whole, stays_refused}
use Rattle.spelling.proofs.Spelt.{spelt}

-- in the midst of a statement that begins at a place
abbrev pub midst : Standing → List Told → ℕ → List ℕ → Walk
midst st ts at p = record { standing = st; held = p; told = ts; read = at + length p; stop = None }

-- between two statements
abbrev pub between : Standing → List Told → ℕ → Walk
between st ts at = record { standing = st; held = []; told = ts; read = at; stop = None }

abbrev pub telling : ℕ → Said → Told
telling at s = record { place = at; said = s }

-- after a refusal nothing is read
pub walk_stopped : (w : Walk) (e : Stopped) (bs : List ℕ) → w.stop ≡ Some e → walk w bs ≡ w
walk_stopped w e [] h = refl
walk_stopped w e (b ∷ bs) h =
    let same : walk_step w b ≡ w = ap (λ o. going_on o w b) h in
    ap (λ z. walk z bs) same ∙ walk_stopped w e bs h

-- a front of bytes that want more wants more
pub front_open : (st : Standing) (xs ys : List ℕ) → reading st (xs ++ ys) ≡ more → reading st xs ≡ more
front_open st xs ys e = by (reading st xs) refl
  where
    by : (x : Shape) → reading st xs ≡ x → x ≡ more
    by more h = refl
    by (refused f) h = let z = sym e ∙ stays_refused st xs ys f h in absurd (cc)
    by (whole s) h = let z = sym e ∙ stays_whole st xs ys s h in absurd (cc)

module _ (st : Standing) (ts : List Told) (at : ℕ) where
  pub place_is : (p : List ℕ) → place_of (midst st ts at p) ≡ at
  place_is p = omega arith

  -- one byte within the limit
  step_in : (p : List ℕ) (b : ℕ) → at + length p < longest_stream → walk_step (midst st ts at p) b ≡ heeding (midst st ts at p) (p ++ (b ∷ [])) (reading st (p ++ (b ∷ [])))
  step_in p b h =
      let w = midst st ts at p in
      ap (λ t. cond t (stopping fault.StreamTooLong w.read w) (heeding w (p ++ (b ∷ [])) (reading st (p ++ (b ∷ []))))) (lt-leb longest_stream (at + length p) h)

  step_more : (p : List ℕ) (b : ℕ) → at + length p < longest_stream → reading st (p ++ (b ∷ [])) ≡ more → walk_step (midst st ts at p) b ≡ midst st ts at (p ++ (b ∷ []))
  step_more p b h e =
      let n : at + length p + 1 ≡ at + length (p ++ (b ∷ [])) = omega (arith, length_push p b) in
      step_in p b h ∙ ap (heeding (midst st ts at p) (p ++ (b ∷ []))) e
      ∙ (λ i. record { standing = st; held = p ++ (b ∷ []); told = ts; read = n i; stop = None })

  -- bytes that want more are all held
  pub walk_more : (p r : List ℕ) → at + length p + length r ≤ longest_stream → reading st (p ++ r) ≡ more → walk (midst st ts at p) r ≡ midst st ts at (p ++ r)
  walk_more p [] h e = ap (midst st ts at) (sym (append-nil p))
  walk_more p (b ∷ r) h e =
      let q = p ++ (b ∷ []) in
      let all : q ++ r ≡ p ++ (b ∷ r) = append_assoc p (b ∷ []) r in
      let open-yet : reading st q ≡ more = front_open st q r (ap (reading st) all ∙ e) in
      let few : at + length q + length r ≤ longest_stream = omega (arith, length_push p b) in
      ap (λ w. walk w r) (step_more p b (omega arith) open-yet) ∙ walk_more q r few (ap (reading st) all ∙ e) ∙ ap (midst st ts at) all

  -- the last byte of a statement
  step_whole : (p : List ℕ) (b : ℕ) (s : Said) → at + length p < longest_stream → reading st (p ++ (b ∷ [])) ≡ whole s
      → walk_step (midst st ts at p) b ≡ between (onwards st s) (ts ++ (telling at s ∷ [])) (at + length (p ++ (b ∷ [])))
  step_whole p b s h e =
      let n : at + length p + 1 ≡ at + length (p ++ (b ∷ [])) = omega (arith, length_push p b) in
      step_in p b h ∙ ap (heeding (midst st ts at p) (p ++ (b ∷ []))) e
      ∙ (λ i. between (onwards st s) (ts ++ (telling (place_is p i) s ∷ [])) (n i))

  -- the first byte at which bytes are refused
  step_refused : (p : List ℕ) (b : ℕ) (f : Fault) → at + length p < longest_stream → reading st (p ++ (b ∷ [])) ≡ refused f
      → walk_step (midst st ts at p) b ≡ record { standing = st; held = p; told = ts; read = at + length p + 1; stop = Some (record { fault = f; place = at }) }
  step_refused p b f h e =
      step_in p b h ∙ ap (heeding (midst st ts at p) (p ++ (b ∷ []))) e
      ∙ (λ i. record { standing = st; held = p; told = ts; read = at + length p + 1; stop = Some (record { fault = f; place = place_is p i }) })

  -- from a place between statements
  pub start_midst : between st ts at ≡ midst st ts at []
  start_midst = let n : at ≡ at + 0 = omega arith in λ i. record { standing = st; held = []; told = ts; read = n i; stop = None }

  -- the bytes of one statement
  pub walk_statement : (bs : List ℕ) (s : Said) → Reads st bs s → 0 < length bs → at + length bs ≤ longest_stream
      → walk (between st ts at) bs ≡ between (onwards st s) (ts ++ (telling at s ∷ [])) (at + length bs)
  walk_statement bs s r some few =
      let k = length bs - 1 in
      let lt : k < length bs = omega arith in
      let front = take k bs in
      let last = get_or bs k 0 in
      let size : length front ≡ k = omega (arith, ap length split, length_push front last) in
      ap (λ w. walk w bs) start_midst ∙ ap (walk (midst st ts at [])) split ∙ fold-append walk_step (midst st ts at []) front (last ∷ [])
      ∙ ap (λ w. walk w (last ∷ [])) (walk_more [] front (omega arith) (r.before k lt))
      ∙ step_whole front last s (omega arith) (ap (reading st) (sym split) ∙ r.last)
      ∙ ap (λ z. between (onwards st s) (ts ++ (telling at s ∷ [])) (at + length z)) (sym split)
    where
      split : bs ≡ take (length bs - 1) bs ++ (get_or bs (length bs - 1) 0 ∷ [])
      split =
          let k = length bs - 1 in
          sym (take_all (k + 1) bs (omega arith)) ∙ take_more bs k 0 (omega arith)

  -- bytes that are refused stop the reading at the place of their code
  pub walk_refused : (p r : List ℕ) (f : Fault) → at + length p + length r ≤ longest_stream → reading st p ≡ more → reading st (p ++ r) ≡ refused f
      → ((walk (midst st ts at p) r).told ≡ ts) × ((walk (midst st ts at p) r).stop ≡ Some (record { fault = f; place = at }))
  walk_refused p [] f h o e = let z = sym o ∙ ap (reading st) (sym (append-nil p)) ∙ e in absurd (cc)
  walk_refused p (b ∷ r) f h o e = by (λ o'. walk_refused (p ++ (b ∷ [])) r f few o' later) (reading st (p ++ (b ∷ []))) refl
    where
      few : at + length (p ++ (b ∷ [])) + length r ≤ longest_stream
      few = omega (arith, length_push p b)

      later : reading st (p ++ (b ∷ []) ++ r) ≡ refused f
      later = ap (reading st) (append_assoc p (b ∷ []) r) ∙ e

      Ends : Walk → Type 0
      Ends w = (w.told ≡ ts) × (w.stop ≡ Some (record { fault = f; place = at }))

      by : (reading st (p ++ (b ∷ [])) ≡ more → Ends (walk (midst st ts at (p ++ (b ∷ []))) r)) → (x : Shape) → reading st (p ++ (b ∷ [])) ≡ x → Ends (walk (walk_step (midst st ts at p) b) r)
      by next more g = subst (λ w. Ends (walk w r)) (sym (step_more p b (omega arith) g)) (next g)
      by next (refused f') g =
          let same : refused f' ≡ refused f = sym (stays_refused st (p ++ (b ∷ [])) r f' g) ∙ later in
          let f-same : f' ≡ f = cc in
          let w = step_refused p b f (omega arith) (g ∙ same) in
          let over = walk_stopped (walk_step (midst st ts at p) b) (record { fault = f; place = at }) r (ap (λ z. z.stop) w) in
          subst Ends (sym over) (ap (λ z. z.told) w, ap (λ z. z.stop) w)
      by next (whole s) g = let z = sym later ∙ stays_whole st (p ++ (b ∷ [])) r s g in absurd (cc)

pub spelling_long : (s : Said) → 0 < length (spell s)
spelling_long s = omega arith

-- statements one after the other
walk_all : (ss : List Said) (st : Standing) (ts : List Told) (at : ℕ) → Stand st ss → at + length (spell_all ss) ≤ longest_stream
    → walk (between st ts at) (spell_all ss) ≡ between (standing_after st ss) (ts ++ placed at ss) (at + length (spell_all ss))
walk_all [] st ts at h few =
    let n : at ≡ at + 0 = omega arith in
    λ i. between st (sym (append-nil ts) i) (n i)
walk_all (s ∷ ss) st ts at h few =
    let size = length-append (spell s) (spell_all ss) in
    let next = at + length (spell s) in
    let ts' = ts ++ (telling at s ∷ []) in
    let n : next + length (spell_all ss) ≡ at + length (spell s ++ spell_all ss) = omega arith in
    fold-append walk_step (between st ts at) (spell s) (spell_all ss)
    ∙ ap (λ w. walk w (spell_all ss)) (walk_statement st ts at (spell s) s (spelt st s h.0 h.1) (spelling_long s) (omega arith))
    ∙ walk_all ss (onwards st s) ts' next h.2 (omega arith)
    ∙ (λ i. between (standing_after (onwards st s) ss) (append_assoc ts (telling at s ∷ []) (placed next ss) i) (n i))

pub reads_back : StreamsReadBack
reads_back ss h few =
    let n : 0 + length (spell_all ss) ≡ length (spell_all ss) = omega arith in
    walk_all ss Outside [] 0 h (omega arith) ∙ (λ i. between (standing_after Outside ss) (placed 0 ss) (n i))
