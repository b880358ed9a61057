-- Restated streams run alike.
use Rattle.std.proofs.Common.{◌≡◌, ℕ, ◌+◌, ◌-◌, Bool, true, false, cond, leb, List, [], ◌∷◌, ◌++◌, length, ℤ, None, sym, refl, ap, ◌∙◌, arith, length-append}
use Rattle.statement.specs.declared.layout.Trace.{Trace}
use Rattle.statement.specs.declared.layout.Aim.TheVariants as aim
use Rattle.statement.specs.declared.types.Fault.TheVariants as unread
use Rattle.statement.specs.declared.types.Standing.TheVariants.{Picture}
use Rattle.statement.specs.Statements.{travel, Act, plain, act}
use Rattle.statement.specs.Reading.{Shape, more, whole, reading}
use Rattle.spelling.specs.Spelling.{travel_code, spell_pair, unless}
use Rattle.spelling.specs.Walking.{longest_stream}
use Rattle.run.specs.declared.types.Fault.TheVariants as fault
use Rattle.run.specs.Inks.{Ink, point, target, go}
use Rattle.run.specs.Performing.{Entry, spot_at, counted, out_of, perform_top}
use Rattle.run.specs.Runs.{Drawing, Config, refusing, performed, heeding, reads, too_long, step, run, begun}
use Rattle.run.specs.Cuttings.{played, stream}
use Rattle.run.specs.Restated.{travel_bytes, Restated, ends, same, absolute, RestatesAlike}
use Rattle.run.proofs.Steps.{with_counts, run-++}
use Rattle.run.proofs.Cuttings.{still_run, same_outcome, alike_by_runs}
use Rattle.run.proofs.Spelled.{Coming, drawing_here, now_here, comes_in_picture}

unless_true : (t : Bool) → t ≡ true → unless t unread.WrongCoordinate ≡ None
unless_true t e = ap (λ z. unless z unread.WrongCoordinate) e

-- what follows the limit on a stream's length on both sides
limit_or : (t : Bool) (l m : Config) (f g : Config → Config) (c e : Config) → f l ≡ g m → f c ≡ g e → f (cond t l c) ≡ g (cond t m e)
limit_or true l m f g c e x y = x
limit_or false l m f g c e x y = y

module _ (T : List Entry) (p : ℕ) (i : Ink) (k : ℕ) where
  abbrev in_picture : List ℕ → Drawing
  in_picture h = drawing_here T p h i

  abbrev here : List ℕ → ℕ → Config
  here h r = with_counts (in_picture h) r k

  step_by : (h : List ℕ) (x r : ℕ) (s : Shape) → reading Picture (h ++ (x ∷ [])) ≡ s
      → step (here h r) x ≡ cond (leb longest_stream r) (too_long (here h r)) (reads (r + 1) (heeding (h ++ (x ∷ [])) s (r - length h) (in_picture h) k))
  step_by h x r s e = ap (λ z. cond (leb longest_stream r) (too_long (here h r)) (reads (r + 1) (heeding (h ++ (x ∷ [])) z (r - length h) (in_picture h) k))) e

  long_alike : (h g : List ℕ) → length h ≡ length g → (r : ℕ) → too_long (here h r) ≡ too_long (here g r)
  long_alike h g e r = ap (λ n. with_counts (refusing (fault.Read unread.StreamTooLong) (r - n) (in_picture [])) r k) e

  -- two statements of as many bytes that do the same
  module _ (a b : Act) (alike : perform_top T a i k ≡ perform_top T b i k) where
    bytes_alike : (h g : List ℕ) (x y : ℕ) (xs ys : List ℕ) → length h ≡ length g → length xs ≡ length ys → Coming Picture (act a) (h ++ (x ∷ [])) xs → Coming Picture (act b) (g ++ (y ∷ [])) ys
        → (r : ℕ) → run (here h r) (x ∷ xs) ≡ run (here g r) (y ∷ ys)
    bytes_alike h g x y [] (z ∷ ys) e l u v r = absurd (omega arith)
    bytes_alike h g x y (w ∷ xs) [] e l u v r = absurd (omega arith)
    bytes_alike h g x y [] [] e l u v r =
        step_by h x r (whole (act a)) u
        ∙ limit_or (leb longest_stream r) (too_long (here h r)) (too_long (here g r)) (λ c. c) (λ c. c)
        (reads (r + 1) (performed (r - length h) (in_picture h) (perform_top T a i k))) (reads (r + 1) (performed (r - length g) (in_picture g) (perform_top T b i k)))
        (long_alike h g e r)
        (ap (λ o. reads (r + 1) (performed (r - length h) (in_picture h) o)) alike ∙ ap (λ n. reads (r + 1) (performed (r - n) (in_picture h) (perform_top T b i k))) e)
        ∙ sym (step_by g y r (whole (act b)) v)
    bytes_alike h g x y (w ∷ xs) (z ∷ ys) e l u v r =
        ap (λ c. run c (w ∷ xs)) (step_by h x r more u.0)
        ∙ limit_or (leb longest_stream r) (too_long (here h r)) (too_long (here g r)) (λ c. run c (w ∷ xs)) (λ c. run c (z ∷ ys)) (here (h ++ (x ∷ [])) (r + 1)) (here (g ++ (y ∷ [])) (r + 1))
        (still_run (too_long (here h r)) (w ∷ xs) refl ∙ long_alike h g e r ∙ sym (still_run (too_long (here g r)) (z ∷ ys) refl))
        (bytes_alike (h ++ (x ∷ [])) (g ++ (y ∷ [])) w z xs ys (simp length-append (omega arith)) (omega arith) u.1 v.1 (r + 1))
        ∙ sym (ap (λ c. run c (z ∷ ys)) (step_by g y r more v.0))

  -- one point, given as a delta and as itself
  travels_alike : (t : Trace) (dx dy x y : ℤ) → target aim.Relative dx dy i.beam ≡ point x y → perform_top T (plain (travel t aim.Relative dx dy)) i k ≡ perform_top T (plain (travel t aim.Absolute x y)) i k
  travels_alike t dx dy x y e = ap (λ q. counted (spot_at 0 0) (λ j n. out_of (spot_at 0 0) (go t q j) n) i k) e

pub restates : {c : Config} {xs ys : List ℕ} → Restated c xs ys → run c xs ≡ run c ys
restates ends = refl
restates (same w) = restates w
restates (absolute {c} t dx dy x y {xs} {ys} now ld lx e w) =
    let d = c.drawing in
    let g = now_here d now in
    let rel = travel_bytes t aim.Relative dx dy in
    let abs = travel_bytes t aim.Absolute x y in
    let one : run c rel ≡ run c abs =
    ap (λ z. run (with_counts z c.read c.count) rel) g
    ∙ bytes_alike d.table d.pictures d.ink c.count (plain (travel t aim.Relative dx dy)) (plain (travel t aim.Absolute x y))
    (travels_alike d.table d.pictures d.ink c.count t dx dy x y e) [] [] (travel_code t aim.Relative) (travel_code t aim.Absolute) (spell_pair dx dy) (spell_pair x y) refl refl
    (comes_in_picture (plain (travel t aim.Relative dx dy)) (unless_true _ ld)) (comes_in_picture (plain (travel t aim.Absolute x y)) (unless_true _ lx)) c.read
    ∙ sym (ap (λ z. run (with_counts z c.read c.count) abs) g) in
    run-++ c rel xs ∙ restates w ∙ ap (λ z. run z ys) one ∙ sym (run-++ c abs ys)

pub restates_alike : RestatesAlike
restates_alike m n ks ls e w f = same_outcome (played m ks) (played n ls) (alike_by_runs m n ks ls (restates w ∙ ap (λ z. run (begun z) (stream ls)) e) f)
