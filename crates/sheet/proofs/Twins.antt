-- Sheets that are alike stay alike.
use Rattle.std.proofs.Common.{◌≡◌, ℕ, zero, suc, ◌≤◌, Bool, true, ◌&&◌, List, [], ◌∷◌, length, drop, Some, None, Ok, Err, Option, Result, sym, refl, ap, ◌∙◌}
use Rattle.std.proofs.lemmas.List.{drop_all}
use Rattle.std.proofs.lemmas.Bool.{and_from}
use Rattle.std.proofs.Math.Bool.{and-true}
use Rattle.mark.specs.declared.Mark.{Mark}
use Rattle.sheet.specs.declared.refusals.Refusal.{Refusal}
use Rattle.sheet.specs.declared.refusals.Refusal.TheVariants.{Full}
use Rattle.sheet.specs.Meanings.{Meaning, answer, marked, marked_by, marked_all}
use Rattle.sheet.specs.Alike.{Alike, same_answer, same_answers}

-- to be alike is to mean the same
pub alike_same : (a b : Meaning) → Alike a b → a ≡ b
alike_same a b h = λ i. record {
  side = h.side i;
  inked = λ z. h.inked z i;
  stock = h.stock i;
  full = h.full i;
}

pub same_alike : (a b : Meaning) → a ≡ b → Alike a b
same_alike a b e = record {
  side = λ i. (e i).side;
  inked = λ z i. (e i).inked z;
  stock = λ i. (e i).stock;
  full = λ i. (e i).full;
}

own_answer : (r : Result (Unit {0}) Refusal) → same_answer r r ≡ true
own_answer (Ok u) = refl
own_answer (Err Full) = refl

own_answers : (a : Meaning) (ms : List Mark) → same_answers a a ms ≡ true
own_answers a [] = refl
own_answers a (m ∷ ms) = and_from (same_answer (answer a) (answer a)) (same_answers (marked a m) (marked a m) ms) (own_answer (answer a)) (own_answers (marked a m) ms)

pub alike_answers : (a b : Meaning) (ms : List Mark) → Alike a b → same_answers a b ms ≡ true
alike_answers a b ms h = ap (λ (c : Meaning). same_answers a c ms) (sym (alike_same a b h)) ∙ own_answers a ms

pub alike_marked : (a b : Meaning) (ms : List Mark) → Alike a b → Alike (marked_all a ms) (marked_all b ms)
alike_marked a b ms h = same_alike (marked_all a ms) (marked_all b ms) (ap (λ (c : Meaning). marked_all c ms) (alike_same a b h))

-- no mark changes the side
side_by : (s : Option ℕ) (a : Meaning) (m : Mark) → (marked_by s a m).side ≡ a.side
side_by None a m = refl
side_by (Some zero) a m = refl
side_by (Some (suc n)) a m = refl

pub side_kept : (a : Meaning) (ms : List Mark) → (marked_all a ms).side ≡ a.side
side_kept a [] = refl
side_kept a (m ∷ ms) = side_kept (marked a m) ms ∙ side_by a.stock a m

-- the end of a loop over marks: nothing is left
module _ (ms : List Mark) (i : ℕ) where
  pub marked_end : (a whole : Meaning) → length ms ≤ i → marked_all a (drop i ms) ≡ whole → a ≡ whole
  marked_end a whole h inv = sym (ap (marked_all a) (drop_all i ms h)) ∙ inv

  pub answers_end : (a b : Meaning) (same whole : Bool) → length ms ≤ i → (same && same_answers a b (drop i ms)) ≡ whole → same ≡ whole
  answers_end a b same whole h inv =
      sym (and-true same) ∙ sym (ap (λ (l : List Mark). same && same_answers a b l) (drop_all i ms h)) ∙ inv
