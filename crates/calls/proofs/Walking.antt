-- A body, byte by byte.
use Rattle.std.proofs.Common.{◌≡◌, ℕ, suc, ◌+◌, ◌-◌, ◌<◌, ◌≤◌, List, [], ◌∷◌, ◌++◌, length, get_or, take, drop, Some, sym, refl, ap, ◌∙◌, arith, length-drop, length-take, get_or-drop, drop-cons}
use Rattle.std.proofs.lemmas.List.{take_more, drop_all}
use Rattle.statement.specs.declared.types.Fault.{Fault}
use Rattle.statement.specs.Statements.{Said, erase, endpic, subhed, subend, act}
use Rattle.statement.specs.Reading.{Shape, more, refused, whole, reading}
use Rattle.run.specs.declared.types.Fault.TheVariants as fault
use Rattle.run.specs.Inks.{Ink}
use Rattle.run.specs.Performing.{Trouble, Out, done, failed, after, Entry, in_body, spot_at, on_play, play, perform}
use Rattle.sheet.specs.Meanings.{Meaning}
use Rattle.pen.specs.Views.{ink_of}
use Rattle.calls.specs.declared.types.Work.{Work}
use Rattle.calls.specs.Outcomes.{perform_said}

module _ (d : ℕ) (T : List Entry) (ns : List (List ℕ)) where
  abbrev plays : List ℕ → ℕ → List ℕ → Ink → ℕ → Out
  plays = play (perform d T ns) (length ns)

  -- a whole statement is performed, one that is not performed refused
  says : (w : ℕ → List ℕ → Ink → ℕ → Out) (o : ℕ) (h : List ℕ) (i : Ink) (k : ℕ) (s : Said) → on_play (perform d T ns) w (length ns) o h i k (whole s) ≡ after (perform_said d T ns o s i k) (w (o + length h) [])
  says w o h i k erase = refl
  says w o h i k endpic = refl
  says w o h i k (subhed n x) = refl
  says w o h i k subend = refl
  says w o h i k (act a) = refl

  module _ (body : List ℕ) (start end : ℕ) (i : Ink) (k : ℕ) (le : start < end) (lt : end ≤ length body) where
    held_more : take (end - 1 - start) (drop start body) ++ (get_or body (end - 1) 0 ∷ []) ≡ take (end - start) (drop start body)
    held_more =
        let n : end - start ≡ (end - 1 - start) + 1 = omega arith in
        let k : start + (end - 1 - start) ≡ end - 1 = omega arith in
        let l : end - 1 - start < length (drop start body) = simp length-drop (omega arith) in
        sym (ap (λ j. take j (drop start body)) n ∙ take_more (drop start body) (end - 1 - start) 0 l ∙ ap (λ v. take (end - 1 - start) (drop start body) ++ (v ∷ [])) (get_or-drop start body (end - 1 - start) 0 ∙ ap (λ j. get_or body j 0) k))

    abbrev front : List ℕ
    front = take (end - start) (drop start body)

    abbrev by : List ℕ → Shape → Out
    by h s = on_play (perform d T ns) (plays (drop end body)) (length ns) start h i k s

    next : plays (drop (end - 1) body) start (take (end - 1 - start) (drop start body)) i k ≡ by front (reading in_body front)
    next =
        let n : suc (end - 1) ≡ end = omega arith in
        let e : drop (end - 1) body ≡ get_or body (end - 1) 0 ∷ drop end body = drop-cons body (end - 1) 0 (omega arith) ∙ ap (λ j. get_or body (end - 1) 0 ∷ drop j body) n in
        ap (λ z. plays z start (take (end - 1 - start) (drop start body)) i k) e ∙ ap (λ z. by z (reading in_body z)) held_more

    pub wants_more : more ≡ reading in_body front → plays (drop (end - 1) body) start (take (end - 1 - start) (drop start body)) i k ≡ plays (drop end body) start front i k
    wants_more e = next ∙ sym (ap (by front) e)

    pub refuses : {x : Fault} → refused x ≡ reading in_body front → plays (drop (end - 1) body) start (take (end - 1 - start) (drop start body)) i k ≡ failed (fault.Read x) (spot_at (length ns) start) i k
    refuses {x} e = next ∙ sym (ap (by front) e)

    front_end : start + length front ≡ end
    front_end = simp (length-take, length-drop) (omega arith)

    whole_is : (s : Said) → whole s ≡ reading in_body front → plays (drop (end - 1) body) start (take (end - 1 - start) (drop start body)) i k ≡ after (perform_said d T ns start s i k) (plays (drop end body) end [])
    whole_is s e = next ∙ sym (ap (by front) e) ∙ says (plays (drop end body)) start front i k s ∙ ap (λ z. after (perform_said d T ns start s i k) (plays (drop end body) z [])) front_end

    pub goes_on : (s : Said) (j : Ink) (l : ℕ) → whole s ≡ reading in_body front → done j l ≡ perform_said d T ns start s i k
        → plays (drop (end - 1) body) start (take (end - 1 - start) (drop start body)) i k ≡ plays (drop end body) end (take (end - end) (drop end body)) j l
    goes_on s j l e h =
        let z : end - end ≡ 0 = omega arith in
        whole_is s e ∙ sym (ap (λ o. after o (plays (drop end body) end [])) h) ∙ rw z

    pub breaks_off : (s : Said) {x : Trouble} {j : Ink} {l : ℕ} → whole s ≡ reading in_body front → record { ink = j; count = l; refusal = Some x } ≡ perform_said d T ns start s i k
        → plays (drop (end - 1) body) start (take (end - 1 - start) (drop start body)) i k ≡ record { ink = j; count = l; refusal = Some x }
    breaks_off s e h = whole_is s e ∙ sym (ap (λ o. after o (plays (drop end body) end [])) h)

  pub ends : (body : List ℕ) (at : ℕ) (o : ℕ) (held : List ℕ) (i : Ink) (k : ℕ) → length body ≤ at → plays (drop at body) o held i k ≡ done i k
  ends body at o held i k h = let e = drop_all at body h in simp e

  -- where a turn ends, the next begins
  pub same_turn : (body : List ℕ) (at s s' : ℕ) (w w' : Work) (a a' : Meaning) {x : Out} → s' ≡ s → w' ≡ w → a' ≡ a
      → x ≡ plays (drop at body) s (take (at - s) (drop s body)) (ink_of w.pen a) w.count → x ≡ plays (drop at body) s' (take (at - s') (drop s' body)) (ink_of w'.pen a') w'.count
  same_turn body at s s' w w' a a' es ew ea h =
      h ∙ sym (ap (λ z. plays (drop at body) z (take (at - z) (drop z body)) (ink_of w'.pen a') w'.count) es
      ∙ ap (λ z. plays (drop at body) s (take (at - s) (drop s body)) (ink_of z.pen a') z.count) ew
      ∙ ap (λ z. plays (drop at body) s (take (at - s) (drop s body)) (ink_of w.pen z) w.count) ea)
