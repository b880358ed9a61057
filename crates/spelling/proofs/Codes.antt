-- Codes and what follows them: each layout has one code.
use Rattle.std.proofs.Common.{◌≡◌, ℕ, ◌+◌, ◌-◌, Bool, true, false, cond, ◌&&◌, eqb, List, [], ◌∷◌, Some, refl, ap, arith}
use Rattle.std.proofs.lemmas.Bool.{eqb-true, eqb-false, and_parts}
use Rattle.statement.specs.declared.layout.Trace.TheVariants as trace
use Rattle.statement.specs.declared.layout.Aim.TheVariants as aim
use Rattle.statement.specs.declared.layout.Manner.TheVariants as manner
use Rattle.statement.specs.declared.layout.Setting.TheVariants as setting
use Rattle.statement.specs.declared.layout.Bare.TheVariants as bare
use Rattle.statement.specs.declared.layout.Layout.{Layout}
use Rattle.statement.specs.declared.layout.Layout.TheVariants as layout
use Rattle.statement.specs.Statements.{alone, layouts, item, layout_of}
use Rattle.spelling.specs.Spelling.{travel_code, text_code, setting_code, code_of}

abbrev pub layout_code : Layout → ℕ
layout_code (layout.Bare b) = code_of (alone b)
layout_code (layout.Pair t a) = travel_code t a
layout_code (layout.Text m) = text_code m
layout_code layout.Escape = 11
layout_code (layout.Value s) = setting_code s
layout_code layout.Heading = 15
layout_code layout.Calling = 17

-- layouts whose codes count up
abbrev numbered : ℕ → List Layout → Bool
numbered n [] = true
numbered n (l ∷ ls) = eqb (layout_code l) n && numbered (n + 1) ls

numbered_item : (n : ℕ) (ls : List Layout) (c : ℕ) (l : Layout) → numbered n ls ≡ true → item ls c ≡ Some l → layout_code l ≡ n + c
numbered_item n [] c l h e = absurd (cc)
numbered_item n (x ∷ ls) c l h e = by (numbered_item (n + 1) ls (c - 1) l (and_parts (eqb (layout_code x) n) (numbered (n + 1) ls) h).1) (eqb c 0) refl e
  where
    by : (item ls (c - 1) ≡ Some l → layout_code l ≡ n + 1 + (c - 1)) → (b : Bool) → eqb c 0 ≡ b → cond b (Some x) (item ls (c - 1)) ≡ Some l → layout_code l ≡ n + c
    by next true z e' =
        let same : x ≡ l = cc in
        let here : layout_code x ≡ n = eqb-true (layout_code x) n (and_parts (eqb (layout_code x) n) (numbered (n + 1) ls) h).0 in
        let zero : c ≡ 0 = eqb-true c 0 z in
        let moved : layout_code x ≡ layout_code l = ap layout_code same in
        omega arith
    by next false z e' =
        let there : layout_code l ≡ n + 1 + (c - 1) = next e' in
        let some : c ≡ 0 → ⊥ = eqb-false c 0 z in
        omega arith

-- the code of what follows a code
pub code_of_layout : (c : ℕ) (l : Layout) → layout_of c ≡ Some l → layout_code l ≡ c
code_of_layout c l e = let p : layout_code l ≡ 0 + c = numbered_item 0 layouts c l refl e in omega arith

pub layout_of_code : (l : Layout) → layout_of (layout_code l) ≡ Some l
layout_of_code (layout.Bare bare.Null) = refl
layout_of_code (layout.Bare bare.Erase) = refl
layout_of_code (layout.Bare bare.Endpic) = refl
layout_of_code (layout.Bare bare.Subend) = refl
layout_of_code (layout.Bare bare.Mark) = refl
layout_of_code (layout.Bare bare.Movemk) = refl
layout_of_code (layout.Bare bare.Drawmk) = refl
layout_of_code (layout.Pair trace.Blank aim.Absolute) = refl
layout_of_code (layout.Pair trace.Blank aim.Relative) = refl
layout_of_code (layout.Pair trace.Line aim.Absolute) = refl
layout_of_code (layout.Pair trace.Line aim.Relative) = refl
layout_of_code (layout.Pair trace.Dot aim.Absolute) = refl
layout_of_code (layout.Pair trace.Dot aim.Relative) = refl
layout_of_code (layout.Text manner.Onward) = refl
layout_of_code (layout.Text manner.Restoring) = refl
layout_of_code (layout.Text manner.Wrapping) = refl
layout_of_code layout.Escape = refl
layout_of_code (layout.Value setting.LineMode) = refl
layout_of_code (layout.Value setting.Intensity) = refl
layout_of_code layout.Heading = refl
layout_of_code layout.Calling = refl
