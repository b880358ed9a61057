-- The two streams of the sample are related, and run to the same beam.
use Rattle.std.proofs.Common.{◌≡◌, ℕ, List, [], ◌∷◌, ◌++◌, pos, Some, None, sym, refl, subst}
use Rattle.geometry.specs.declared.field.Point.{Point}
use Rattle.mark.specs.declared.LineMode.TheVariants as mode
use Rattle.mark.specs.declared.Mark.TheVariants as mark
use Rattle.sheet.specs.Meanings.{Meaning, marked}
use Rattle.statement.specs.declared.layout.Trace.TheVariants as trace
use Rattle.statement.specs.declared.layout.Aim.TheVariants as aim
use Rattle.statement.specs.declared.types.Header.TheVariants as header
use Rattle.statement.specs.Statements.{empty, coded, travel, plain, mark}
use Rattle.run.specs.declared.types.Life.TheVariants.{Live}
use Rattle.run.specs.Inks.{point}
use Rattle.run.specs.Performing.{Entry}
use Rattle.run.specs.Runs.{Config, picture, step, run, begun}
use Rattle.run.specs.Worked.{blank_sheet}
use Rattle.run.specs.Written.{OpenedOut, nothing, kept, opened, Written, ends, same, out, in_turn}
use Rattle.run.specs.Samples.{defined, first_call, first_out, redefined, second_call, second_out, Sample}

-- bytes that are the same in both
sames : (c : Config) (zs : List ℕ) {xs ys : List ℕ} → Written (run c zs) xs ys → Written c (zs ++ xs) (zs ++ ys)
sames c [] w = w
sames c (z ∷ zs) w = same (sames (step c z) zs w)

-- the same, to a configuration that is known
sames_to : (c e : Config) (zs xs ys : List ℕ) → run c zs ≡ e → Written e xs ys → Written c (zs ++ xs) (zs ++ ys)
sames_to c e zs xs ys q w = sames c zs (subst (λ d. Written d xs ys) (sym q) w)

-- in a picture, between two statements
abbrev between : Point → Meaning → List Entry → ℕ → ℕ → Config
between p m T r k = record {
  drawing = record { life = Live; held = []; stance = picture; pictures = 0; ink = record { beam = p; mode = mode.Solid; intensity = 128; marks = []; sheet = m }; table = T };
  read = r;
  count = k;
}

abbrev table₁ : List Entry
table₁ = record { name = 65 ∷ []; header = header.Simple; body = 7 ∷ 0 ∷ 10 ∷ 0 ∷ 0 ∷ [] } ∷ []

abbrev table₂ : List Entry
table₂ =
    record { name = 65 ∷ []; header = header.Simple; body = 3 ∷ 0 ∷ 0 ∷ 0 ∷ 1 ∷ [] }
    ∷ record { name = 66 ∷ []; header = header.Both; body = 17 ∷ 1 ∷ 65 ∷ 0 ∷ 18 ∷ [] } ∷ []

abbrev dotted : Meaning
dotted = marked blank_sheet (mark.Dot (point (pos 15) (pos 6)))

abbrev c₁ : Config
c₁ = between (point (pos 0) (pos 0)) blank_sheet table₁ 12 0

abbrev c₂ : Config
c₂ = between (point (pos 15) (pos 6)) dotted table₁ 21 2

abbrev c₃ : Config
c₃ = between (point (pos 15) (pos 6)) dotted table₂ 43 2

c₁_is : run (begun blank_sheet) defined ≡ c₁
c₁_is = refl

c₂_is : run c₁ first_call ≡ c₂
c₂_is = refl

c₃_is : run c₂ redefined ≡ c₃
c₃_is = refl

in_turn_lem : OpenedOut table₂ (17 ∷ 1 ∷ 65 ∷ 0 ∷ 18 ∷ []) second_out
in_turn_lem =
    opened (65 ∷ []) empty {zs = 3 ∷ 0 ∷ 0 ∷ 0 ∷ 1 ∷ []} {xs = 18 ∷ []} {ys = 18 ∷ []} refl
    (kept (plain (travel trace.Blank aim.Relative (pos 0) (pos 1))) {xs = []} {ys = []} refl nothing) (kept (plain mark) {xs = []} {ys = []} refl nothing)

second : Written c₃ (second_call ++ (10 ∷ [])) (second_out ++ (10 ∷ []))
second =
    in_turn {c = c₃} (66 ∷ []) (coded None None) {zs = second_out} {xs = 10 ∷ []} {ys = 10 ∷ []} (record { is_live = refl; in_picture = refl; between = refl }) refl in_turn_lem (same ends)

middle : Written c₂ (redefined ++ (second_call ++ (10 ∷ []))) (redefined ++ (second_out ++ (10 ∷ [])))
middle = sames_to c₂ c₃ redefined (second_call ++ (10 ∷ [])) (second_out ++ (10 ∷ [])) c₃_is second

written : Written c₁ (first_call ++ (redefined ++ (second_call ++ (10 ∷ [])))) (first_out ++ (redefined ++ (second_out ++ (10 ∷ []))))
written =
    out {c = c₁} (65 ∷ []) (coded None (Some (pos 5, pos 6))) {xs = redefined ++ (second_call ++ (10 ∷ []))} {ys = redefined ++ (second_out ++ (10 ∷ []))}
    (record { is_live = refl; in_picture = refl; between = refl }) refl
    (subst (λ d. Written d (redefined ++ (second_call ++ (10 ∷ []))) (redefined ++ (second_out ++ (10 ∷ [])))) (sym c₂_is) middle)

pub sample : Sample
sample = record {
  related = sames_to (begun blank_sheet) c₁ defined (first_call ++ (redefined ++ (second_call ++ (10 ∷ [])))) (first_out ++ (redefined ++ (second_out ++ (10 ∷ [])))) c₁_is written;
  calling_stands = refl;
  written_stands = refl;
  calling_beam = refl;
  written_beam = refl;
  calling_count = refl;
  written_count = refl;
}
