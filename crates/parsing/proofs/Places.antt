-- A part of a part lies in the whole.
use Rattle.std.proofs.Common.{◌≡◌, ℕ, ◌+◌, ◌-◌, ◌≤◌, List, length, take, drop, sym, ap, ◌∙◌, arith, length-drop, length-take}
use Rattle.std.proofs.lemmas.List.{take-take, drop-drop, drop-take}

-- `bs` lies in `ws` at `at`
module _ (at : ℕ) (ws bs : List ℕ) (lies : take (length bs) (drop at ws) ≡ bs) where
  pub part_lies : (k n : ℕ) → k + n ≤ length bs → take n (drop (at + k) ws) ≡ take n (drop k bs)
  part_lies k n h =
      let split : length bs ≡ k + (length bs - k) = omega arith in
      let shorter : n ≤ length bs - k = omega arith in
      let cut : drop k bs ≡ take (length bs - k) (drop (at + k) ws) =
      ap (drop k) (sym lies)
      ∙ ap (λ m. drop k (take m (drop at ws))) split
      ∙ drop-take k (length bs - k) (drop at ws)
      ∙ ap (take (length bs - k)) (drop-drop k at ws) in
      sym (ap (take n) cut ∙ take-take n (length bs - k) (drop (at + k) ws) shorter)

  pub rest_lies : 1 ≤ length bs → take (length (take (length bs - 1) (drop 1 bs))) (drop (at + 1) ws) ≡ take (length bs - 1) (drop 1 bs)
  rest_lies h =
      let size : length (take (length bs - 1) (drop 1 bs)) ≡ length bs - 1 = simp (length-take, length-drop) (omega arith) in
      ap (λ m. take m (drop (at + 1) ws)) size ∙ part_lies 1 (length bs - 1) (omega arith)
