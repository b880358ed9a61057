-- Some number below a bound passes a test: how a loop that looks for it goes on, and how it ends.
use Rattle.std.proofs.Common.{◌≡◌, ℕ, zero, suc, ◌+◌, ◌<◌, ◌≤◌, Bool, true, false, refl, subst, add-one, arith}
use Rattle.std.proofs.lemmas.Bool.{or_from}
use Rattle.std.proofs.lemmas.Bool.Decides.{Decides-below_or}
use Rattle.mark.specs.Covers.{any_below}

-- none below k, and not k: none below k + 1
pub none_more : (f : ℕ → Bool) (k : ℕ) → any_below f k ≡ false → f k ≡ false → any_below f (k + 1) ≡ false
none_more f k below here = rw add-one (or_from (f k) (any_below f k) here below)

-- none below k, and k is the bound
pub none_end : (f : ℕ → Bool) (n k : ℕ) → k ≤ n → n ≤ k → any_below f k ≡ false → any_below f n ≡ false
none_end f n k h g below = subst (λ (m : ℕ). any_below f m ≡ false) (omega arith) below

-- k is one
pub some_at : (f : ℕ → Bool) (n k : ℕ) → k < n → f k ≡ true → any_below f n ≡ true
some_at f n k h t = (Decides-below_or f (λ k. f k ≡ true) (any_below f) (λ k. ((λ t. t), (λ t. t))) refl (λ n. refl) n).1 (k, h, t)

-- no number passes
pub none_all : (f : ℕ → Bool) (n : ℕ) → ((k : ℕ) → f k ≡ false) → any_below f n ≡ false
none_all f zero all = refl
none_all f (suc n) all = or_from (f n) (any_below f n) (all n) (none_all f n all)
