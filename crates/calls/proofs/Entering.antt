-- What performing a statement comes to, test by test.
use Rattle.std.proofs.Common.{◌≡◌, ℕ, zero, suc, ◌+◌, ◌-◌, ◌<◌, ◌≤◌, Bool, true, false, cond, leb, List, [], ◌∷◌, ◌++◌, length, Some, None, Option, sym, refl, ap, ◌∙◌, arith, length-append, rules, leb-false, leb-true}
use lib.ListN.{length-map}
use Rattle.std.proofs.lemmas.Slice.Eq.{compares_Decides, IsBytesEq}
use Rattle.statement.specs.declared.types.Fault.TheVariants as unread
use Rattle.statement.specs.declared.types.Part.{Part}
use Rattle.statement.specs.declared.types.Tail.{Tail}
use Rattle.statement.specs.declared.types.Statement.{Statement}
use Rattle.statement.specs.declared.types.Statement.TheVariants as stmt
use Rattle.statement.specs.Statements.{CallTail, Act, plain, call, Said, erase, endpic, subhed, subend, act}
use Rattle.statement.specs.Views.{said_by}
use Rattle.run.specs.declared.types.Fault.{Fault}
use Rattle.run.specs.declared.types.Fault.TheVariants as fault
use Rattle.run.specs.declared.types.Spot.{Spot}
use Rattle.run.specs.Inks.{Ink}
use Rattle.run.specs.Performing.{Out, done, failed, out_of, Entry, same_bytes, find, is_among, is_simple, spot_at, play, called, acted, bodies, perform, arrive}
use Rattle.pen.specs.Views.{plain_effect}
use Rattle.calls.specs.declared.nesting.OpenNames.{OpenNames}
use Rattle.calls.specs.Outcomes.{is_act, bar, perform_said, hindrance}
use Rattle.calls.specs.Tables.{open_of, calls_left}

-- how many calls more may be open
pub left_of : (o : OpenNames) → calls_left o ≡ 8 - length (open_of o)
left_of o = ap (λ n. 8 - n) (let e : length (open_of o) ≡ length o.names.items = simp length-map in sym e)

-- the entry that is found has the name
name_by : (t : Bool) (e x : Entry) (r : Option Entry) (n : List ℕ) → (t ≡ true → e.name ≡ n) → (r ≡ Some x → x.name ≡ n) → cond t (Some e) r ≡ Some x → x.name ≡ n
name_by true e x r n h ih p = let q : e ≡ x = cc in sym (ap (λ z. z.name) q) ∙ h refl
name_by false e x r n h ih p = ih p

pub found_name : (es : List Entry) (n : List ℕ) (x : Entry) → find es n ≡ Some x → x.name ≡ n
found_name [] n x p = absurd cc
found_name (e ∷ es) n x p =
    let k : IsBytesEq same_bytes = search rules in
    name_by (same_bytes e.name n) e x (find es n) n (compares_Decides same_bytes k e.name n).0 (found_name es n x) p

-- what bars a statement refuses it
module _ (d : ℕ) (T : List Entry) (ns : List (List ℕ)) (o : ℕ) (i : Ink) (k : ℕ) (f : Fault) where
  barred_by : (a : Act) (t : Bool) → leb 65536 k ≡ t → Some f ≡ cond t (Some fault.TooMany) None → failed f (spot_at (length ns) o) i k ≡ perform d T ns o a i k
  barred_by a true e h =
      let v : f ≡ fault.TooMany = cc in
      let s = spot_at (length ns) o in
      ap (λ x. failed x s i k) v ∙ sym (ap (λ t. cond t (failed fault.TooMany s i k) (acted (bodies d T ns) T s a i (k + 1))) e)
  barred_by a false e h = absurd cc

  not_act : Some f ≡ Some (fault.Read unread.Misplaced) → failed f (spot_at (length ns) o) i k ≡ failed (fault.Read unread.Misplaced) (spot_at (length ns) o) i k
  not_act h = let v : f ≡ fault.Read unread.Misplaced = cc in ap (λ x. failed x (spot_at (length ns) o) i k) v

  pub barred : (s : Said) → Some f ≡ bar s k → failed f (spot_at (length ns) o) i k ≡ perform_said d T ns o s i k
  barred erase h = not_act h
  barred endpic h = not_act h
  barred (subhed n x) h = not_act h
  barred subend h = not_act h
  barred (act a) h = barred_by a (leb 65536 k) refl h

-- what is not barred is performed and not too much
few_by : (t : Bool) → None ≡ cond t (Some fault.TooMany) None → t ≡ false
few_by true h = absurd cc
few_by false h = refl

pub open_to : (s : Said) (k : ℕ) → None ≡ bar s k → (is_act s ≡ true) × (leb 65536 k ≡ false)
open_to erase k h = absurd cc
open_to endpic k h = absurd cc
open_to (subhed n x) k h = absurd cc
open_to subend k h = absurd cc
open_to (act a) k h = (refl, few_by (leb 65536 k) h)

-- the call of an entry, by what stands in its way
abbrev hindering : Bool → Bool → Bool → Option Fault
hindering a b c = cond a (cond b (Some fault.AlreadyOpen) (cond c (Some fault.TooDeep) None)) (Some fault.NotCallable)

module _ (T : List Entry) (ns : List (List ℕ)) (s : Spot) (n : List ℕ) (e : Entry) (i : Ink) (k : ℕ) where
  abbrev calling : ℕ → Out
  calling d = called s (bodies d T ns s n) (Some e) i k

  simple_calls : (d : ℕ) → is_simple e.header ≡ true → calling d ≡ bodies d T ns s n e.body i k
  simple_calls d h = ap (λ t. cond t (bodies d T ns s n e.body i k) (failed fault.NotCallable s i k)) h

  open_calls : (d : ℕ) → is_among n ns ≡ true → bodies d T ns s n e.body i k ≡ failed fault.AlreadyOpen s i k
  open_calls zero h = rw h
  open_calls (suc d) h = rw h

  deep_calls : (d : ℕ) → d ≡ 0 → is_among n ns ≡ false → bodies d T ns s n e.body i k ≡ failed fault.TooDeep s i k
  deep_calls zero z h = rw h
  deep_calls (suc d) z h = absurd (omega arith)

  abbrev inside : ℕ → Out
  inside d = play (perform d T (ns ++ (n ∷ []))) (length (ns ++ (n ∷ []))) e.body 0 [] i k

  free_calls : (d : ℕ) → 0 < d → is_among n ns ≡ false → bodies d T ns s n e.body i k ≡ inside (d - 1)
  free_calls zero z h = absurd (omega arith)
  free_calls (suc d) z h = let p : suc d - 1 ≡ d = omega arith in rw (h, p)

  hindered_by : (d : ℕ) (f : Fault) (a b c : Bool) → is_simple e.header ≡ a → is_among n ns ≡ b → leb 8 (length ns) ≡ c → d ≡ 8 - length ns → Some f ≡ hindering a b c → failed f s i k ≡ calling d
  hindered_by d f false b c p q r z h =
      let v : f ≡ fault.NotCallable = cc in
      ap (λ x. failed x s i k) v ∙ sym (ap (λ t. cond t (bodies d T ns s n e.body i k) (failed fault.NotCallable s i k)) p)
  hindered_by d f true true c p q r z h =
      let v : f ≡ fault.AlreadyOpen = cc in
      ap (λ x. failed x s i k) v ∙ sym (simple_calls d p ∙ open_calls d q)
  hindered_by d f true false true p q r z h =
      let v : f ≡ fault.TooDeep = cc in
      let l : 8 ≤ length ns = leb-true 8 (length ns) r in
      let w : d ≡ 0 = omega arith in
      ap (λ x. failed x s i k) v ∙ sym (simple_calls d p ∙ deep_calls d w q)
  hindered_by d f true false false p q r z h = absurd cc

  free_by : (d : ℕ) (a b c : Bool) → is_simple e.header ≡ a → is_among n ns ≡ b → leb 8 (length ns) ≡ c → d ≡ 8 - length ns → None ≡ hindering a b c → inside (d - 1) ≡ calling d
  free_by d false b c p q r z h = absurd cc
  free_by d true true c p q r z h = absurd cc
  free_by d true false true p q r z h = absurd cc
  free_by d true false false p q r z h =
      let l : length ns < 8 = leb-false 8 (length ns) r in
      let w : 0 < d = omega arith in
      sym (simple_calls d p ∙ free_calls d w q)

  hindered : (d : ℕ) (f : Fault) → d ≡ 8 - length ns → Some f ≡ hindrance e n ns → failed f s i k ≡ calling d
  hindered d f z h = hindered_by d f (is_simple e.header) (is_among n ns) (leb 8 (length ns)) refl refl refl z h

  free : (d : ℕ) → d ≡ 8 - length ns → None ≡ hindrance e n ns → inside (d - 1) ≡ calling d
  free d z h = free_by d (is_simple e.header) (is_among n ns) (leb 8 (length ns)) refl refl refl z h

abbrev is_call : Said → Bool
is_call erase = false
is_call endpic = false
is_call (subhed n x) = false
is_call subend = false
is_call (act (plain p)) = false
is_call (act (call n t)) = true

-- only INSTS is a call
pub no_call : (st : Statement) → ((p : Part) (t : Tail) → st ≡ stmt.Insts p t → ⊥) → is_call (said_by st) ≡ false
no_call stmt.Null h = refl
no_call stmt.Erase h = refl
no_call (stmt.Movea x y) h = refl
no_call (stmt.Mover x y) h = refl
no_call (stmt.Drawa x y) h = refl
no_call (stmt.Drawr x y) h = refl
no_call (stmt.Dota x y) h = refl
no_call (stmt.Dotr x y) h = refl
no_call (stmt.Text p) h = refl
no_call (stmt.Textr p) h = refl
no_call stmt.Endpic h = refl
no_call (stmt.Escdev v p) h = refl
no_call (stmt.Linmod v) h = refl
no_call (stmt.Setint v) h = refl
no_call (stmt.Texto p) h = refl
no_call (stmt.Subhed p x) h = refl
no_call stmt.Subend h = refl
no_call (stmt.Insts p t) h = absurd (h p t refl)
no_call stmt.Mark h = refl
no_call stmt.Movemk h = refl
no_call stmt.Drawmk h = refl

module _ (d : ℕ) (T : List Entry) (ns : List (List ℕ)) (o : ℕ) (i : Ink) (k : ℕ) (left : d ≡ 8 - length ns) where
  performs : leb 65536 k ≡ false → (a : Act) → perform d T ns o a i k ≡ acted (bodies d T ns) T (spot_at (length ns) o) a i (k + 1)
  performs few a =
      let s = spot_at (length ns) o in
      ap (λ t. cond t (failed fault.TooMany s i k) (acted (bodies d T ns) T s a i (k + 1))) few

  plainly : leb 65536 k ≡ false → (s : Said) → is_act s ≡ true → is_call s ≡ false → out_of (spot_at (length ns) o) (plain_effect s i) (k + 1) ≡ perform_said d T ns o s i k
  plainly few erase a h = absurd cc
  plainly few endpic a h = absurd cc
  plainly few (subhed n x) a h = absurd cc
  plainly few subend a h = absurd cc
  plainly few (act (plain p)) a h = sym (performs few (plain p))
  plainly few (act (call n t)) a h = absurd cc

  -- a statement that is no call
  pub does_plain : (s : Said) → None ≡ bar s k → is_call s ≡ false → out_of (spot_at (length ns) o) (plain_effect s i) (k + 1) ≡ perform_said d T ns o s i k
  does_plain s b h = plainly (open_to s k b).1 s (open_to s k b).0 h

  -- a call, once the beam is at its AT point
  module _ (n : List ℕ) (t : CallTail) (j : Ink) (s : Said) (there : j ≡ arrive t i) (is : s ≡ act (call n t)) (free_way : None ≡ bar s k) where
    does_call : (r : Option Entry) → find T n ≡ r → {x : Out} → x ≡ called (spot_at (length ns) o) (bodies d T ns (spot_at (length ns) o) n) r (arrive t i) (k + 1) → x ≡ perform_said d T ns o s i k
    does_call r f e =
        e
        ∙ sym (performs (open_to s k free_way).1 (call n t) ∙ ap (λ e. called (spot_at (length ns) o) (bodies d T ns (spot_at (length ns) o) n) e (arrive t i) (k + 1)) f)
        ∙ sym (ap (λ z. perform_said d T ns o z i k) is)

    pub calls_none : find T n ≡ None → done j (k + 1) ≡ perform_said d T ns o s i k
    calls_none f = does_call None f (ap (λ z. done z (k + 1)) there)

    pub calls_hindered : (e : Entry) (f : Fault) → find T n ≡ Some e → Some f ≡ hindrance e n ns → failed f (spot_at (length ns) o) j (k + 1) ≡ perform_said d T ns o s i k
    calls_hindered e f w h =
        does_call (Some e) w (ap (λ z. failed f (spot_at (length ns) o) z (k + 1)) there ∙ hindered T ns (spot_at (length ns) o) n e (arrive t i) (k + 1) d f left h)

    pub calls_in : {x : Out} (e : Entry) (v : ℕ) (ms : List (List ℕ)) → find T n ≡ Some e → None ≡ hindrance e n ns → v ≡ 8 - length ms → ms ≡ ns ++ (e.name ∷ []) → x ≡ play (perform v T ms) (length ms) e.body 0 [] j (k + 1) → x ≡ perform_said d T ns o s i k
    calls_in e v ms w h less more q =
        let m : ms ≡ ns ++ (n ∷ []) = more ∙ ap (λ z. ns ++ (z ∷ [])) (found_name T n e w) in
        let u : v ≡ d - 1 = omega (arith, ap length m, length-append ns (n ∷ [])) in
        does_call (Some e) w
        (q ∙ ap (λ z. play (perform z T ms) (length ms) e.body 0 [] j (k + 1)) u
        ∙ ap (λ z. play (perform (d - 1) T z) (length z) e.body 0 [] j (k + 1)) m
        ∙ ap (λ z. inside T ns (spot_at (length ns) o) n e z (k + 1) (d - 1)) there
        ∙ free T ns (spot_at (length ns) o) n e (arrive t i) (k + 1) d left h)
