-- One step through a stream, from between two statements.
use Rattle.std.proofs.Common.{◌≡◌, ℕ, ◌+◌, ◌-◌, ◌^◌, ◌<◌, ◌≤◌, min, true, cond, leb, List, [], ◌∷◌, ◌++◌, length, get_or, take, drop, None, Ok, Err, Result, sym, refl, ap, ◌∙◌, arith, length-append, w8, Fits}
use Rattle.std.proofs.ByRecursion.{All-from_get_or}
use Rattle.std.proofs.lemmas.List.{append_assoc, take-append-drop, length-take, length-drop, drop_all, drop-drop, drop_at}
use Rattle.std.proofs.lemmas.List.Sums.{fold-append}
use Rattle.std.proofs.lemmas.Bool.{le-leb}
use Rattle.statement.specs.declared.types.Fault.{Fault}
use Rattle.statement.specs.declared.types.Fault.TheVariants as fault
use Rattle.statement.specs.declared.types.Standing.{Standing}
use Rattle.statement.specs.declared.types.Statement.{Statement}
use Rattle.statement.specs.declared.types.Stop.{Stop}
use Rattle.statement.specs.Statements.{Said, onwards, allowed}
use Rattle.statement.specs.Views.{said_by, shape_of}
use Rattle.statement.specs.Reading.{more, refused, reading}
use Rattle.walking.specs.declared.walker.End.{End}
use Rattle.walking.specs.declared.walker.End.TheVariants as end
use Rattle.spelling.specs.Answers.{over_front}
use Rattle.spelling.specs.Spelling.{code_of, spell, Lawful}
use Rattle.walking.specs.Stories.{end_at, end_of, from_place, BeginsWith}
use Rattle.spelling.specs.Walking.{Told, Walk, longest_stream, place_of, stopping, heeding, walk_step, walk}
use Rattle.spelling.proofs.Begins.{begins}
use Rattle.spelling.proofs.Fronts.{Bytes}
use Rattle.spelling.proofs.Spelt.{spelt}
use Rattle.walking.proofs.Walks.{midst, between, telling, walk_stopped, walk_more, walk_statement, walk_refused, start_midst, place_is, spelling_long}

pub bytes_typed : (bs : List ℕ) → ((i : ℕ) → Fits w8 (get_or bs i 0)) → Bytes bs
bytes_typed bs h = All-from_get_or (λ b. b < 256) bs 0 (λ i lt. (h i).fits)

-- what was read as whole is spelt at the front
pub begins_with : (st : Standing) (r : Result Statement Stop) (bs : List ℕ) → Bytes bs → shape_of r ≡ reading st bs → BeginsWith st r bs
begins_with st (Err e) bs h is = tt
begins_with st (Ok s) bs h is =
    let g = begins st bs (said_by s) (sym is) in
    let p : bs ≡ spell (said_by s) ++ g.rest = g.spelt.1 h in
    let n = length (spell (said_by s)) in
    let left : drop n bs ≡ g.rest = ap (drop n) p ∙ drop_at (spell (said_by s)) g.rest n refl in
    (p ∙ ap (λ z. spell (said_by s) ++ z) (sym left), g.faultless, g.may)

-- the bytes from a place up to the limit, and those after it
module _ (st : Standing) (at : ℕ) (bs : List ℕ) (limit : ℕ) (begun : at ≤ limit) (held : limit ≤ length bs) (few : limit ≤ longest_stream) where
  abbrev window : List ℕ
  window = take (limit - at) (drop at bs)

  abbrev after : List ℕ
  after = drop (limit - at) (drop at bs)

  window_length : length window ≡ limit - at
  window_length = omega (arith, length-take (limit - at) (drop at bs), length-drop at bs)

  split : drop at bs ≡ window ++ after
  split = sym (take-append-drop (limit - at) (drop at bs))

  -- a whole statement is told
  module _ (s : Said) (front : window ≡ over_front (spell s) window) (l : Lawful s) (may : allowed st (code_of s) ≡ true) where
    abbrev rest : List ℕ
    rest = drop (length (spell s)) window

    pub told_within : at + length (spell s) ≤ limit
    told_within = omega (arith, window_length, ap length front ∙ length-append (spell s) rest)

    pub told_step : (ts : List Told) → from_place st at bs ts ≡ from_place (onwards st s) (at + length (spell s)) bs (ts ++ (telling at s ∷ []))
    told_step ts =
        let all : drop at bs ≡ spell s ++ (rest ++ after) = split ∙ ap (λ z. z ++ after) front ∙ append_assoc (spell s) rest after in
        let left : drop (at + length (spell s)) bs ≡ rest ++ after =
        sym (drop-drop (length (spell s)) at bs) ∙ ap (drop (length (spell s))) all ∙ drop_at (spell s) (rest ++ after) (length (spell s)) refl in
        let inside = told_within in
        ap (walk (between st ts at)) all ∙ fold-append walk_step (between st ts at) (spell s) (rest ++ after)
        ∙ ap (λ w. walk w (rest ++ after)) (walk_statement st ts at (spell s) s (spelt st s l may) (spelling_long s) (omega arith))
        ∙ ap (walk (between (onwards st s) (ts ++ (telling at s ∷ [])) (at + length (spell s)))) (sym left)

    pub told_size : (n : ℕ) → n ≡ min (length (spell s)) (2 ^ 64 - 1) → at + n ≡ at + length (spell s)
    told_size n en = let inside = told_within in omega arith

    -- the same by what was counted
    pub told_on : (st' : Standing) (n : ℕ) → st' ≡ onwards st s → n ≡ min (length (spell s)) (2 ^ 64 - 1)
        → (ts : List Told) → from_place st at bs ts ≡ from_place st' (at + n) bs (ts ++ (telling at s ∷ []))
    told_on st' n es en ts =
        let inside = told_within in
        let size : length (spell s) ≡ n = omega arith in
        told_step ts ∙ (λ i. from_place (sym es i) (at + size i) bs (ts ++ (telling at s ∷ [])))

  abbrev Ends : End → Type 0
  Ends e = (ts : List Told) → ((from_place st at bs ts).told ≡ ts) × (e ≡ end_of (from_place st at bs ts))

  -- the walk up to the limit, and on from there
  by_window : (ts : List Told) → from_place st at bs ts ≡ walk (walk (midst st ts at []) window) after
  by_window ts = ap (λ w. walk w (drop at bs)) (start_midst st ts at) ∙ ap (walk (midst st ts at [])) split ∙ fold-append walk_step (midst st ts at []) window after

  -- a refusal ends the walk
  pub refused_step : (f : Fault) → refused f ≡ reading st window → Ends (end.Refused f at)
  refused_step f e ts =
      let r = walk_refused st ts at [] window f (omega (arith, window_length)) refl (sym e) in
      let w = by_window ts ∙ walk_stopped (walk (midst st ts at []) window) (record { fault = f; place = at }) after r.1 in (
        ap (λ z. z.told) w ∙ r.0,
        sym (ap end_of w ∙ ap (λ o. end_at o (walk (midst st ts at []) window).standing (walk (midst st ts at []) window).held (walk (midst st ts at []) window).read) r.1),
      )

  -- bytes that want more are held
  held_window : (ts : List Told) → more ≡ reading st window → from_place st at bs ts ≡ walk (midst st ts at window) after
  held_window ts e = by_window ts ∙ ap (λ w. walk w after) (walk_more st ts at [] window (omega (arith, window_length)) (sym e))

  -- the stream ends there
  pub open_step : limit ≡ length bs → more ≡ reading st window → Ends (end_at None st window limit)
  open_step last e ts =
      let none : after ≡ [] = drop_all (limit - at) (drop at bs) (omega (arith, length-drop at bs)) in
      let w : from_place st at bs ts ≡ midst st ts at window = held_window ts e ∙ ap (walk (midst st ts at window)) none in
      let far : limit ≡ at + length window = omega (arith, window_length) in
      (ap (λ z. z.told) w, ap (end_at None st window) far ∙ sym (ap end_of w))

  -- the stream goes on past the longest
  pub long_step : limit ≡ longest_stream → limit < length bs → more ≡ reading st window → Ends (end.Refused fault.StreamTooLong at)
  long_step last on e ts = past after (omega (arith, length-drop (limit - at) (drop at bs), length-drop at bs)) (held_window ts e)
    where
      full : leb longest_stream (at + length window) ≡ true
      full = le-leb longest_stream (at + length window) (omega (arith, window_length))

      past : (xs : List ℕ) → 0 < length xs → from_place st at bs ts ≡ walk (midst st ts at window) xs → ((from_place st at bs ts).told ≡ ts) × (end.Refused fault.StreamTooLong at ≡ end_of (from_place st at bs ts))
      past [] h w = absurd (omega arith)
      past (b ∷ xs) h w =
          let m = midst st ts at window in
          let stopped : Walk = stopping fault.StreamTooLong m.read m in
          let hit : walk_step m b ≡ stopped =
          ap (λ t. cond t stopped (heeding m (window ++ (b ∷ [])) (reading st (window ++ (b ∷ []))))) full in
          let over = w ∙ ap (λ z. walk z xs) hit ∙ walk_stopped stopped (record { fault = fault.StreamTooLong; place = place_of m }) xs refl in
          (ap (λ z. z.told) over, ap (end.Refused fault.StreamTooLong) (sym (place_is st ts at window)) ∙ sym (ap end_of over))
