-- A test that holds at every number below a bound, computed, and the rule that it stands for.
use Rattle.std.proofs.Common.{◌≡◌, ℕ, zero, suc, ◌<◌, Bool, true, ◌&&◌, refl}
use Rattle.std.specs.Bool.{Decides}
use Rattle.std.proofs.lemmas.Bool.Decides.{Decides-below_and}

-- the test p is true at every number below the bound
abbrev pub all_below : (ℕ → Bool) → ℕ → Bool
all_below p zero = true
all_below p (suc n) = p n && all_below p n

decides : (p : ℕ → Bool) (n : ℕ) → Decides (all_below p n) ((k : ℕ) → k < n → p k ≡ true)
decides p = Decides-below_and p (λ k. p k ≡ true) (all_below p) (λ k. ((λ t. t), (λ t. t))) refl (λ n. refl)

-- from the computed test to the rule
pub passes : (p : ℕ → Bool) (n : ℕ) → all_below p n ≡ true → (k : ℕ) → k < n → p k ≡ true
passes p n t = (decides p n).0 t

-- from the rule to the computed test
pub passing : (p : ℕ → Bool) (n : ℕ) → ((k : ℕ) → k < n → p k ≡ true) → all_below p n ≡ true
passing p n f = (decides p n).1 f
