-- A count of numbers, with one number more.
use Rattle.std.proofs.Common.{◌≡◌, ℕ, ◌+◌, ◌<◌, ◌≤◌, Bool, true, false, length, take, get_or, ap, ◌∙◌, arith}
use Rattle.std.specs.List.{range_with_len, count_by}
use Rattle.std.proofs.lemmas.List.{take_all}
use Rattle.std.proofs.lemmas.List.FromFn.{length-range_with_len, get_or-range_with_len}
use Rattle.std.proofs.lemmas.List.Sums.{count_by_more_yes, count_by_more_no}

module _ (p : ℕ → Bool) (n k : ℕ) (h : k < n) where
  here : k < length (range_with_len 0 n)
  here = omega (arith, length-range_with_len 0 n)

  at : get_or (range_with_len 0 n) k 0 ≡ k
  at = let z : 0 + k ≡ k = omega arith in get_or-range_with_len 0 n k 0 h ∙ z

  pub one_counted : p k ≡ true → count_by p (take (k + 1) (range_with_len 0 n)) ≡ count_by p (take k (range_with_len 0 n)) + 1
  one_counted e = count_by_more_yes p (range_with_len 0 n) k 0 here (ap p at ∙ e)

  pub none_counted : p k ≡ false → count_by p (take (k + 1) (range_with_len 0 n)) ≡ count_by p (take k (range_with_len 0 n))
  none_counted e = count_by_more_no p (range_with_len 0 n) k 0 here (ap p at ∙ e)

pub all_counted : (p : ℕ → Bool) (n k : ℕ) → n ≤ k → count_by p (take k (range_with_len 0 n)) ≡ count_by p (range_with_len 0 n)
all_counted p n k h = ap (count_by p) (take_all k (range_with_len 0 n) (omega (arith, length-range_with_len 0 n)))
