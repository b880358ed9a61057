-- What a chain over the rows or columns of a page gives, said of each of them.
use Rattle.std.proofs.Common.{◌≡◌, ℕ, zero, suc, ◌+◌, ◌-◌, ◌<◌, ◌≤◌, Bool, true, false, List, [], ◌∷◌, length, Some, None, Option, sym, ap, ◌∙◌, subst, inl, inr, arith}
use denote.Param.Members.{Mut, Called}
use denote.Ref.{Bor}
use Rattle.std.specs.declared.ops.Range.{Range}
use Rattle.std.specs.declared.iter.Rev.{Rev}
use Rattle.std.specs.Prelude.{MatchOption, ⊤, slice_index_or}
use Rattle.std.specs.Option.{unwrap_or}
use Rattle.std.specs.List.{find, FoldsTo}
use Rattle.std.specs.Fn.{CalledAt}
use Rattle.std.specs.Iterator.{YieldsThen}
use Rattle.std.specs.Array.{IsFromFnResultFrom}
use Rattle.std.proofs.lemmas.Bool.{cases_Bool, cases_eq, cond-true, cond-false}
use Rattle.std.proofs.lemmas.Iterator.{YieldsList}
use Rattle.std.proofs.lemmas.Iterator.Adapters.{option_map_id}
use Rattle.std.proofs.lemmas.Iterator.Consumers.{YieldsList-from_shown}
use Rattle.std.proofs.lemmas.Iterator.Search.{find_from_yields_List}

-- the first number that was found, or the end where none was: none before it passed
pub none_before : (r : Option ℕ) (start end found : ℕ) (Yes No : ℕ → Type 0) → start ≤ 0 → MatchOption r ((k : ℕ) → start ≤ k → k < end → No k) (λ i. (start ≤ i) × (i < end) × Yes i × ((k : ℕ) → start ≤ k → k < i → No k)) → found ≡ unwrap_or r end → (k : ℕ) → k < found → No k
none_before None start end found Yes No z m e k h = m k (omega arith) (omega arith)
none_before (Some i) start end found Yes No z m e k h = m.3 k (omega arith) (omega arith)

-- the n numbers from a on, the last one first
abbrev pub countdown : ℕ → ℕ → List ℕ
countdown a zero = []
countdown a (suc n) = (a + n) ∷ countdown a n

-- one more than the last number that passes, or 0 where none does: none from there on passes
pub none_after : (test : ℕ → Bool) (n : ℕ) (r : Option ℕ) → r ≡ find test (countdown 0 n) → (past : ℕ) → MatchOption r (past ≡ 0) (λ i. past ≡ i + 1) → (k : ℕ) → past ≤ k → k < n → test k ≡ false
none_after test zero r e past m k low high = absurd (omega arith)
none_after test (suc n) r e past m k low high =
    elim (cases_Bool (test (0 + n))) [
      | inl t ↦
          let last : past ≡ 0 + n + 1 = subst (λ (o : Option ℕ). MatchOption o (past ≡ 0) (λ i. past ≡ i + 1)) (e ∙ cond-true (test (0 + n)) (Some (0 + n)) (find test (countdown 0 n)) t) m in
          absurd (omega arith)
      | inr f ↦ elim (cases_eq k n) [
        | inl same ↦ let here : k ≡ 0 + n = omega arith in ap test here ∙ f
        | inr other ↦ none_after test n r (e ∙ cond-false (test (0 + n)) (Some (0 + n)) (find test (countdown 0 n)) f) past m k low (omega arith)
      ]
    ]

-- a turned range gives its end, which falls by one
abbrev pub falls_by_one : Rev (Range ℕ) → Option ℕ → Rev (Range ℕ) → Type 0
falls_by_one s r t = (t.iter.start ≡ s.iter.start) × MatchOption r ((s.iter.end - s.iter.start ≡ 0) × (t.iter.end ≡ s.iter.end)) (λ x. (0 < s.iter.end - s.iter.start) × (x ≡ t.iter.end) × (s.iter.end ≡ t.iter.end + 1))

abbrev pub left_of : Rev (Range ℕ) → List ℕ
left_of s = countdown s.iter.start (s.iter.end - s.iter.start)

none_left : (a n : ℕ) → n ≡ 0 → length (countdown a n) ≡ 0
none_left a n e = ap (λ (m : ℕ). length (countdown a m)) e

one_left : (a b end last x : ℕ) → b ≡ a → 0 < end - a → x ≡ last → end ≡ last + 1 → countdown a (end - a) ≡ x ∷ countdown b (last - b)
one_left a b end last x same some is falls =
    let n : end - a ≡ suc (last - a) = omega arith in
    let front : a + (last - a) ≡ x = omega arith in
    ap (countdown a) n ∙ (λ i. front i ∷ countdown (sym same i) (last - sym same i))

comes_down : (s : Rev (Range ℕ)) → YieldsList falls_by_one (λ x. x) s (left_of s)
comes_down =
    YieldsList-from_shown falls_by_one (λ x. x) left_of
    (λ s t h. none_left s.iter.start (s.iter.end - s.iter.start) h.1.0)
    (λ s x t h. one_left s.iter.start t.iter.start s.iter.end t.iter.end x h.0 h.1.0 h.1.1 h.1.2)

-- `find` over a turned range finds the last number that passes
pub last_found : {F : Type 0} {g : Mut F (Bor ℕ × Unit {0}) Bool} (test : ℕ → Bool) (s u : Rev (Range ℕ)) (f : F) (r : Option ℕ)
    → (xs : List ℕ) × (j : F) × YieldsThen falls_by_one s xs r u × FoldsTo (λ p x q. CalledAt g p x false q) f xs j × MatchOption r ⊤ (λ x. (h : F) × CalledAt g j x true h)
    → ((x : ℕ) (b : Bool) (q : F) → CalledAt g f x b q → (q ≡ f) × (b ≡ test x)) → r ≡ find test (left_of s)
last_found test s u f r ran computes = sym (option_map_id r) ∙ find_from_yields_List test u f r ran (comes_down s) computes

-- an array made by a closure that keeps its captures holds at each index what the closure gives there
module _ {F B : Type 0} (g : Mut F (ℕ × Unit {0}) B) (f : F) (h : ℕ → B) (ys : List B) (d : B) where
  pub made : (i n : ℕ) → IsFromFnResultFrom g f ys i n → ((k : ℕ) (y : B) (q : F) → k < i + n → Called g f (k, tt) y q → (q ≡ f) × (y ≡ h k)) → (k : ℕ) → i ≤ k → k < i + n → slice_index_or ys k d ≡ h k
  made i zero is each k low high = absurd (omega arith)
  made i (suc n) is each k low high =
      let here = each i is.1 is.0 (omega arith) is.3 in
      elim (cases_eq k i) [
        | inl same ↦ ap (λ (j : ℕ). slice_index_or ys j d) same ∙ is.2.1 d ∙ here.1 ∙ ap h (sym same)
        | inr other ↦ made (i + 1) n (subst (λ (q : F). IsFromFnResultFrom g q ys (i + 1) n) here.0 is.4) (λ k y q l. each k y q (omega arith)) k (omega arith) (omega arith)
      ]
