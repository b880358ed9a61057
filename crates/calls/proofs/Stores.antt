-- Where the place of a name is, there is its entry; what is stored there takes its place.
use Rattle.std.proofs.Common.{◌≡◌, ℕ, suc, ◌-◌, ◌<◌, ◌≤◌, Bool, true, false, cond, not, ◌&&◌, leb, List, [], ◌∷◌, ◌++◌, map, length, get_or, set, is_some, Some, None, Option, sym, refl, ap, ◌∙◌, arith, le-leb}
use borrow.Author.Tests.{lt-leb}
use Rattle.std.proofs.lemmas.List.{get_or-map}
use Rattle.std.proofs.Math.Bool.{and-false}
use Rattle.statement.specs.declared.types.Header.TheVariants.{Simple}
use Rattle.run.specs.Performing.{Entry, same_bytes, find}
use Rattle.run.specs.Runs.{store, is_absent, is_full}
use Rattle.calls.specs.Tables.{place_from, stored_in}

-- from the place j on, by whether the first entry has the name
module _ (e : Entry) (es : List Entry) (j at : ℕ) (n : List ℕ) where
  found_by : (d : Entry) (t : Bool) → (place_from es (suc j) n ≡ Some at → (suc j ≤ at) × (find es n ≡ Some (get_or es (at - suc j) d)))
      → cond t (Some j) (place_from es (suc j) n) ≡ Some at → (j ≤ at) × (cond t (Some e) (find es n) ≡ Some (get_or (e ∷ es) (at - j) d))
  found_by d true ih h =
      let q : j ≡ at = cc in
      let z : at - j ≡ 0 = omega arith in
      (omega arith, sym (ap (λ k. Some (get_or (e ∷ es) k d)) z))
  found_by d false ih h =
      let y = ih h in
      let le : suc j ≤ at = y.0 in
      let z : at - j ≡ suc (at - suc j) = omega arith in
      (omega arith, y.1 ∙ sym (ap (λ k. Some (get_or (e ∷ es) k d)) z))

  over_by : (w : Entry) (t : Bool) → (place_from es (suc j) n ≡ Some at → (suc j ≤ at) × (set es (at - suc j) w ≡ store w es))
      → cond t (Some j) (place_from es (suc j) n) ≡ Some at → (j ≤ at) × (set (e ∷ es) (at - j) w ≡ cond t (w ∷ es) (e ∷ store w es))
  over_by w true ih h =
      let q : j ≡ at = cc in
      let z : at - j ≡ 0 = omega arith in
      (omega arith, ap (λ k. set (e ∷ es) k w) z)
  over_by w false ih h =
      let y = ih h in
      let le : suc j ≤ at = y.0 in
      let z : at - j ≡ suc (at - suc j) = omega arith in
      (omega arith, ap (λ k. set (e ∷ es) k w) z ∙ ap (λ r. e ∷ r) y.1)

  lost_by : (t : Bool) → (place_from es (suc j) n ≡ None → find es n ≡ None) → cond t (Some j) (place_from es (suc j) n) ≡ None → cond t (Some e) (find es n) ≡ None
  lost_by true ih h = absurd cc
  lost_by false ih h = ih h

  new_by : (w : Entry) (t : Bool) → (place_from es (suc j) n ≡ None → store w es ≡ es ++ (w ∷ [])) → cond t (Some j) (place_from es (suc j) n) ≡ None → cond t (w ∷ es) (e ∷ store w es) ≡ e ∷ (es ++ (w ∷ []))
  new_by w true ih h = absurd cc
  new_by w false ih h = ap (λ r. e ∷ r) (ih h)

found : (es : List Entry) (j at : ℕ) (n : List ℕ) (d : Entry) → place_from es j n ≡ Some at → (j ≤ at) × (find es n ≡ Some (get_or es (at - j) d))
found [] j at n d h = absurd cc
found (e ∷ es) j at n d h = found_by e es j at n d (same_bytes e.name n) (found es (suc j) at n d) h

over : (es : List Entry) (j at : ℕ) (w : Entry) → place_from es j w.name ≡ Some at → (j ≤ at) × (set es (at - j) w ≡ store w es)
over [] j at w h = absurd cc
over (e ∷ es) j at w h = over_by e es j at w.name w (same_bytes e.name w.name) (over es (suc j) at w) h

lost : (es : List Entry) (j : ℕ) (n : List ℕ) → place_from es j n ≡ None → find es n ≡ None
lost [] j n h = refl
lost (e ∷ es) j n h = lost_by e es j 0 n (same_bytes e.name n) (lost es (suc j) n) h

new : (es : List Entry) (j : ℕ) (w : Entry) → place_from es j w.name ≡ None → store w es ≡ es ++ (w ∷ [])
new [] j w h = refl
new (e ∷ es) j w h = new_by e es j 0 w.name w (same_bytes e.name w.name) (new es (suc j) w) h

-- the entry of a name is where its place is
pub found_at : (es : List Entry) (n : List ℕ) (at : ℕ) (d : Entry) → place_from es 0 n ≡ Some at → find es n ≡ Some (get_or es at d)
found_at es n at d h =
    let z : at - 0 ≡ at = omega arith in
    (found es 0 at n d h).1 ∙ ap (λ k. Some (get_or es k d)) z

pub not_found : (es : List Entry) (n : List ℕ) → place_from es 0 n ≡ None → find es n ≡ None
not_found es n h = lost es 0 n h

pub found_entry : {A : Type 0} (f : A → Entry) (es : List A) (n : List ℕ) (at : ℕ) (e : A) → Some at ≡ place_from (map f es) 0 n → at < length es → e ≡ get_or es at e → find (map f es) n ≡ Some (f e)
found_entry f es n at e h l is = found_at (map f es) n at (f e) (sym h) ∙ ap Some (get_or-map f es at e (f e) l ∙ sym (ap f is))

-- whether there is room, and what is stored, by the place of the name
module _ (es : List Entry) (n : List ℕ) where
  room_left : length es < 32 → is_full es n ≡ false
  room_left h = ap (λ b. b && is_absent (find es n)) (lt-leb 32 (length es) h)

  room_taken : (at : ℕ) (d : Entry) → place_from es 0 n ≡ Some at → is_full es n ≡ false
  room_taken at d h = ap (λ o. leb 32 (length es) && is_absent o) (found_at es n at d h) ∙ and-false (leb 32 (length es))

  no_room : place_from es 0 n ≡ None → 32 ≤ length es → is_full es n ≡ true
  no_room h l = ap (λ b. b && is_absent (find es n)) (le-leb 32 (length es) l) ∙ ap is_absent (not_found es n h)

  -- where there are 32 entries, there is no room for a name that has none
  pub full_by : (r : Bool) → 32 ≤ length es → r ≡ is_absent (find es n) → r ≡ is_full es n
  full_by r h e = e ∙ sym (ap (λ b. b && is_absent (find es n)) (le-leb 32 (length es) h))

  pub absent_by : (p : Option ℕ) (r : Bool) → is_some p ≡ not r → p ≡ place_from es 0 n → r ≡ is_absent (find es n)
  absent_by None true t e = sym (ap is_absent (not_found es n (sym e)))
  absent_by None false t e = absurd cc
  absent_by (Some at) true t e = absurd cc
  absent_by (Some at) false t e = sym (ap is_absent (found_at es n at (record { name = []; header = Simple; body = [] }) (sym e)))

module _ (es : List Entry) (w : Entry) where
  stores : is_full es w.name ≡ false → store w es ≡ stored_in es w
  stores h = sym (ap (λ b. cond b es (store w es)) h)

  pub stored_over : (at : ℕ) → Some at ≡ place_from es 0 w.name → set es at w ≡ stored_in es w
  stored_over at h =
      let z : at - 0 ≡ at = omega arith in
      ap (λ k. set es k w) (sym z) ∙ (over es 0 at w (sym h)).1 ∙ stores (room_taken es w.name at w (sym h))

  pub stored_new : None ≡ place_from es 0 w.name → length es < 32 → es ++ (w ∷ []) ≡ stored_in es w
  stored_new h l = sym (new es 0 w (sym h)) ∙ stores (room_left es w.name l)

  pub stored_not : None ≡ place_from es 0 w.name → 32 ≤ length es → es ≡ stored_in es w
  stored_not h l = sym (ap (λ b. cond b es (store w es)) (no_room es w.name (sym h) l))
