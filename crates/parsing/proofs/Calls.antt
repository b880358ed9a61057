-- A call's tail, cut from the bytes after the name.
use Rattle.std.proofs.Common.{◌≡◌, ℕ, ◌+◌, ◌-◌, ◌≤◌, List, [], ◌∷◌, length, get_or, take, drop, sym, ap, ◌∙◌, arith, length-take}
use Rattle.std.proofs.lemmas.List.{take_rest, drop-drop}
use Rattle.std.proofs.lemmas.Bool.{cond-false, le-ltb}
use Rattle.statement.specs.Reading.{tail_of, tailed, calling}

-- the bytes after the length, and as many of them as it says
abbrev pub after : List ℕ → List ℕ
after bs = take (length bs - 1) (drop 1 bs)

abbrev pub cut : List ℕ → List ℕ
cut bs = take (get_or bs 0 0 - 0) (after bs)

cut_is : (t : ℕ) (rest : List ℕ) → cut (t ∷ rest) ≡ take t rest
cut_is t rest = let same : t - 0 ≡ t = omega arith in ap (λ m. take m (after (t ∷ rest))) same ∙ ap (take t) (take_rest (t ∷ rest) 1)

pub called : (name bs : List ℕ) → 1 ≤ length bs → get_or bs 0 0 ≤ 14 → get_or bs 0 0 ≤ length (after bs) → tailed name (tail_of (cut bs)) ≡ calling name bs
called name [] h k l = absurd (omega arith)
called name (t ∷ rest) h k l =
    let l' : t ≤ length rest = rw (take_rest (t ∷ rest) 1) at l in
    ap (λ x. tailed name (tail_of x)) (cut_is t rest)
    ∙ sym (cond-false _ _ _ (le-ltb (length rest) t l'))
    ∙ sym (cond-false _ _ _ (le-ltb 14 t k))

-- `bs` follows the name in `ws`
pub cut_lies : (at : ℕ) (ws bs : List ℕ) → 1 ≤ length bs → get_or bs 0 0 ≤ length (after bs) → drop at ws ≡ bs → take (length (cut bs)) (drop (at + 1) ws) ≡ cut bs
cut_lies at ws [] h l e = absurd (omega arith)
cut_lies at ws (t ∷ rest) h l e =
    let l' : t ≤ length rest = rw (take_rest (t ∷ rest) 1) at l in
    let size : length (cut (t ∷ rest)) ≡ t = ap length (cut_is t rest) ∙ simp length-take (omega arith) in
    ap (λ m. take m (drop (at + 1) ws)) size ∙ ap (take t) (sym (drop-drop 1 at ws) ∙ ap (drop 1) e) ∙ sym (cut_is t rest)
