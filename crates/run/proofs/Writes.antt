-- Calls may be written out.
use Rattle.std.proofs.Common.{◌≡◌, ℕ, Bool, true, false, List, [], ◌∷◌, ◌++◌, sym, refl, ap, ◌∙◌}
use Rattle.sheet.specs.Meanings.{Meaning}
use Rattle.statement.specs.Statements.{CallTail, call, act}
use Rattle.spelling.specs.Spelling.{Lawful}
use Rattle.run.specs.declared.types.Life.{Life}
use Rattle.run.specs.declared.types.Life.TheVariants.{Live, Closed, Refused}
use Rattle.run.specs.Runs.{Drawing, Config, step, run, begun, finish_live}
use Rattle.run.specs.Cuttings.{Call, played, stream, finishes}
use Rattle.run.specs.Restated.{DrawingNow}
use Rattle.run.specs.Written.{move_bytes, body_now, call_bytes, OpenedOut, Written, ends, same, out, in_turn, is_refused, NotRefused, WritesAlike}
use Rattle.run.proofs.Steps.{with_counts, before, run-++, step_agree}
use Rattle.run.proofs.Cuttings.{ended, cuts}
use Rattle.run.proofs.Spelled.{now_here, runs_act}
use Rattle.run.proofs.Keeping.{Bytes, Keeping, body_whole, step_keeps, run_keeps}
use Rattle.run.proofs.Playing.{draws_call, stands_opened, opens_whole}

bytes_split : (xs ys : List ℕ) → Bytes (xs ++ ys) → Bytes xs × Bytes ys
bytes_split [] ys s = (tt, s)
bytes_split (x ∷ xs) ys s = let r = bytes_split xs ys s.1 in ((s.0, r.0), r.1)

-- equal but for bytes read and statement count, before a call and after it, as it is on one side and written out on the other
module _ (c e : Config) (n : List ℕ) (t : CallTail) (zs : List ℕ) (now : DrawingNow c.drawing) (m : Lawful (act (call n t)))
    (o : OpenedOut c.drawing.table (body_now c.drawing.table n) zs) (q : c.drawing ≡ e.drawing) where
  after_call : NotRefused (run c (call_bytes n t)) → NotRefused (run e (move_bytes t ++ zs)) → (run c (call_bytes n t)).drawing ≡ (run e (move_bytes t ++ zs)).drawing
  after_call x y =
      let d = c.drawing in
      let g = now_here d now in
      let gc = ap (λ z. run (with_counts z c.read c.count) (call_bytes n t)) g in
      let ge = ap (λ z. run (with_counts z e.read e.count) (move_bytes t ++ zs)) (sym q ∙ g) in
      let u = runs_act (call n t) m d.table d.pictures d.ink c.read c.count (sym (ap (λ z. is_refused z.drawing.life) gc) ∙ x) in
      let v =
      draws_call d.table d.pictures n t zs m (stands_opened d.table d.pictures o) 8 [] 0 d.ink c.count e.read e.count u.0
      (sym (ap (λ z. is_refused z.drawing.life) ge) ∙ y) in
      ap (λ z. z.drawing) gc ∙ u.1 ∙ sym v ∙ sym (ap (λ z. z.drawing) ge)

  -- if what follows comes to the same, so does the whole
  written_out : (xs ys : List ℕ)
      → ((run c (call_bytes n t)).drawing ≡ (run e (move_bytes t ++ zs)).drawing → NotRefused (run (run c (call_bytes n t)) xs) → NotRefused (run (run e (move_bytes t ++ zs)) ys)
      → (run (run c (call_bytes n t)) xs).drawing ≡ (run (run e (move_bytes t ++ zs)) ys).drawing)
      → NotRefused (run c (call_bytes n t ++ xs)) → NotRefused (run e ((move_bytes t ++ zs) ++ ys))
      → (run c (call_bytes n t ++ xs)).drawing ≡ (run e ((move_bytes t ++ zs) ++ ys)).drawing
  written_out xs ys follows x y =
      let u = run-++ c (call_bytes n t) xs in
      let v = run-++ e (move_bytes t ++ zs) ys in
      let x' : NotRefused (run (run c (call_bytes n t)) xs) = sym (ap (λ z. is_refused z.drawing.life) u) ∙ x in
      let y' : NotRefused (run (run e (move_bytes t ++ zs)) ys) = sym (ap (λ z. is_refused z.drawing.life) v) ∙ y in
      ap (λ z. z.drawing) u
      ∙ follows (after_call (before (run c (call_bytes n t)) xs x') (before (run e (move_bytes t ++ zs)) ys y')) x' y'
      ∙ sym (ap (λ z. z.drawing) v)

-- from configurations equal but for bytes read and statement count, streams one of which is the other with calls written out
pub writes : {c : Config} {xs ys : List ℕ} → Written c xs ys → (e : Config) → Bytes xs → Keeping c.drawing → c.drawing ≡ e.drawing
    → NotRefused (run c xs) → NotRefused (run e ys) → (run c xs).drawing ≡ (run e ys).drawing
writes ends e s k q x y = q
writes (same {c} {b} {xs} {ys} w) e s k q x y = writes w (step e b) s.1 (step_keeps c b s.0 k) (step_agree c e b q (before (step c b) xs x) (before (step e b) ys y)) x y
writes (out {c} n t {xs} {ys} now m w) e s k q x y =
    let T = c.drawing.table in
    let r = bytes_split (call_bytes n t) xs s in
    let zs = body_now T n in
    let o = opens_whole T c.drawing.pictures zs (body_whole T n k.0) in
    written_out c e n t zs now m o q xs ys (λ f x' y'. writes w (run e (move_bytes t ++ zs)) r.1 (run_keeps c (call_bytes n t) r.0 k) f x' y') x y
writes (in_turn {c} n t {zs} {xs} {ys} now m o w) e s k q x y =
    let r = bytes_split (call_bytes n t) xs s in
    written_out c e n t zs now m o q xs ys (λ f x' y'. writes w (run e (move_bytes t ++ zs)) r.1 (run_keeps c (call_bytes n t) r.0 k) f x' y') x y

-- a finish leaves the ink as it is
finish_ink : (l : Life) (r : ℕ) (d : Drawing) → (finish_live l r d).ink ≡ d.ink
finish_ink Live r d = refl
finish_ink Closed r d = refl
finish_ink (Refused f) r d = refl

ended_ink : (t : Bool) (c : Config) → (ended t c).drawing.ink ≡ c.drawing.ink
ended_ink true c = finish_ink c.drawing.life c.read c.drawing
ended_ink false c = refl

played_ink : (m : Meaning) (ks : List Call) → (played m ks).drawing.ink ≡ (run (begun m) (stream ks)).drawing.ink
played_ink m ks = ap (λ c. c.drawing.ink) (cuts m ks) ∙ ended_ink (finishes ks) (run (begun m) (stream ks))

pub writes_alike : WritesAlike
writes_alike m n ks ls e s w x y =
    let q = writes w (begun n) s (tt, tt) (ap (λ z. (begun z).drawing) e) x y in
    let i : (played m ks).drawing.ink ≡ (played n ls).drawing.ink = played_ink m ks ∙ ap (λ d. d.ink) q ∙ sym (played_ink n ls) in
    record { page = ap (λ z. z.sheet.inked) i; stock = ap (λ z. z.sheet.stock) i; beam = ap (λ z. z.beam) i }
