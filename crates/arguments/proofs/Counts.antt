-- Counts of one and of two bytes, and strings.
use Rattle.std.proofs.Common.{◌≡◌, ℕ, ◌+◌, ◌-◌, ◌*◌, ◌<◌, ◌≤◌, Bool, true, false, cond, ltb, List, [], ◌∷◌, length, get_or, take, drop, Ok, Err, sym, refl, ap, ◌∙◌, subst, arith}
use Rattle.std.proofs.lemmas.List.{take_rest, drop-drop}
use Rattle.std.proofs.lemmas.Bool.{cond-true, cond-false, lt-ltb, le-ltb}
use Rattle.statement.specs.declared.types.Stop.TheVariants.{Wrong}
use Rattle.statement.specs.declared.types.Fault.TheVariants as fault
use Rattle.statement.specs.Reading.{wrong, found, count, long_count, measured, string}
use Rattle.statement.specs.Places.{count_size}
use Rattle.arguments.specs.Stops.{long_count_by}

pub one_byte : (bs : List ℕ) → 1 ≤ length bs → get_or bs 0 0 < 128 → found (get_or bs 0 0) (take (length bs - 1) (drop 1 bs)) ≡ count bs
one_byte [] h k = absurd (omega arith)
one_byte (n ∷ rest) h k = ap (found n) (take_rest (n ∷ rest) 1) ∙ sym (cond-true _ _ _ (lt-ltb n 128 k))

long_found : (t : Bool) (n m : ℕ) (rest : List ℕ) → Ok n ≡ cond t (Err (Wrong fault.ShortCount)) (Ok m) → found n rest ≡ cond t (wrong fault.ShortCount) (found m rest)
long_found true n m rest e = let z : ◌≡◌ {A = ℕ} 0 1 = cc in absurd (omega arith)
long_found false n m rest e = cc

pub two_bytes :
    (bs : List ℕ) → 2 ≤ length bs → 128 ≤ get_or bs 0 0 → (n : ℕ) → Ok n ≡ long_count_by ((get_or bs 0 0 - 128) * 256 + get_or bs 1 0)
    → found n (take (length bs - 2) (drop 2 bs)) ≡ count bs
two_bytes [] h k n e = absurd (omega arith)
two_bytes (b ∷ []) h k n e = absurd (omega arith)
two_bytes (b ∷ l ∷ rest) h k n e =
    ap (found n) (take_rest (b ∷ l ∷ rest) 2)
    ∙ long_found (ltb ((b - 128) * 256 + l) 128) n ((b - 128) * 256 + l) rest e
    ∙ sym (cond-false _ _ _ (le-ltb b 128 k))

-- what a count leaves is the end of the bytes, behind its own one or two
pub record Leaves (n : ℕ) (bs rest : List ℕ) : Type 0 where
  pub few : length bs - length rest ≤ 2
  pub size : length bs - length rest ≡ count_size n
  pub end : drop (length bs - length rest) bs ≡ rest

long_leaves : (t : Bool) (h l n m : ℕ) (bs rest : List ℕ) → ltb m 128 ≡ t → found n rest ≡ cond t (wrong fault.ShortCount) (found m bs) → Leaves n (h ∷ l ∷ bs) rest
long_leaves true h l n m bs rest k e = let z : ◌≡◌ {A = ℕ} 0 1 = cc in absurd (omega arith)
long_leaves false h l n m bs rest k e =
    let same : bs ≡ rest = cc in
    let number : n ≡ m = cc in
    let two : length (h ∷ l ∷ bs) - length bs ≡ 2 = omega arith in
    let size : count_size n ≡ 2 = ap count_size number ∙ cond-false (ltb m 128) 1 2 k in
    subst (Leaves n (h ∷ l ∷ bs)) same (record { few = omega arith; size = two ∙ sym size; end = ap (λ k. drop k (h ∷ l ∷ bs)) two })

leaves : (t : Bool) (b n : ℕ) (bs rest : List ℕ) → ltb b 128 ≡ t → found n rest ≡ cond t (found b bs) (long_count b bs) → Leaves n (b ∷ bs) rest
leaves true b n bs rest k e =
    let same : bs ≡ rest = cc in
    let number : n ≡ b = cc in
    let one : length (b ∷ bs) - length bs ≡ 1 = omega arith in
    let size : count_size n ≡ 1 = ap count_size number ∙ cond-true (ltb b 128) 1 2 k in
    subst (Leaves n (b ∷ bs)) same (record { few = omega arith; size = one ∙ sym size; end = ap (λ k. drop k (b ∷ bs)) one })
leaves false b n [] rest k e = let z : ◌≡◌ {A = ℕ} 0 1 = cc in absurd (omega arith)
leaves false b n (l ∷ bs) rest k e = long_leaves (ltb ((b - 128) * 256 + l) 128) b l n ((b - 128) * 256 + l) bs rest refl e

pub count_leaves : (n : ℕ) (bs rest : List ℕ) → found n rest ≡ count bs → Leaves n bs rest
count_leaves n [] rest e = let z : ◌≡◌ {A = ℕ} 0 1 = cc in absurd (omega arith)
count_leaves n (b ∷ bs) rest e = leaves (ltb b 128) b n bs rest refl e

module _ (n : ℕ) (bs rest text after : List ℕ) (counted : found n rest ≡ count bs) (is-text : text ≡ take n rest) (is-after : after ≡ drop n rest) where
  pub string_found : (limit : ℕ) → n ≤ limit → n ≤ length rest → found text after ≡ string limit bs
  string_found limit h k =
      ap (λ x. found x after) is-text
      ∙ ap (found (take n rest)) is-after
      ∙ sym (cond-false _ _ _ (le-ltb (length rest) n k))
      ∙ sym (cond-false _ _ _ (le-ltb limit n h))
      ∙ ap (measured limit) counted

  -- `at` is where the count stands
  pub string_stands : (at : ℕ) → length text ≡ n → at + (length bs - length rest) ≡ at + count_size (length text)
  string_stands at size = ap (λ m. at + m) ((count_leaves n bs rest counted).size ∙ ap count_size (sym size))

  pub string_lies :
      (at : ℕ) (ws : List ℕ) → length text ≡ n → drop at ws ≡ bs
      → (take (length text) (drop (at + (length bs - length rest)) ws) ≡ text) × (drop (at + (length bs - length rest) + length text) ws ≡ after)
  string_lies at ws size e =
      let k = length bs - length rest in
      let here : drop (at + k) ws ≡ rest = sym (drop-drop k at ws) ∙ ap (drop k) e ∙ (count_leaves n bs rest counted).end in (
        ap (take (length text)) here ∙ ap (λ m. take m rest) size ∙ sym is-text,
        sym (drop-drop (length text) (at + k) ws) ∙ ap (drop (length text)) here ∙ ap (λ m. drop m rest) size ∙ sym is-after,
      )
