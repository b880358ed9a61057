-- Counts and strings: what is found at the front of bytes is spelt there, and what is spelt there is found.
use Rattle.std.proofs.Common.{◌≡◌, ℕ, suc, ◌+◌, ◌-◌, ◌*◌, ◌/◌, ◌%◌, ◌<◌, ◌≤◌, Bool, true, false, cond, ltb, List, [], ◌∷◌, ◌++◌, length, take, drop, sym, refl, ap, ◌∙◌, subst, div-add-mod', arith, length-append, w16, of_z}
use lib.Arith.{digits_div, digits_mod}
use Rattle.std.specs.List.{AllByRecursion}
use Rattle.std.proofs.lemmas.List.{append_assoc, take-append-drop, length-take-le, take_at, drop_at}
use Rattle.std.proofs.lemmas.Int.{of_z-to_z}
use Rattle.std.proofs.lemmas.Bool.{ltb-false, le-ltb}
use Rattle.statement.specs.declared.types.Fault.{Fault}
use Rattle.statement.specs.declared.types.Fault.TheVariants as fault
use Rattle.statement.specs.Reading.{Front, wanting, wrong, found, long_count, count, measured, string, coordinate}
use Rattle.spelling.specs.Spelling.{spell_count, spell_string, spell_pair}

abbrev pub Bytes : List ℕ → Type 0
Bytes xs = AllByRecursion (λ b. b < 256) xs

-- as long, and the same where they are bytes
abbrev pub Matches : List ℕ → List ℕ → Type 0
Matches xs ys = (length xs ≡ length ys) × (Bytes xs → xs ≡ ys)

all_right : (xs ys : List ℕ) → Bytes (xs ++ ys) → Bytes ys
all_right [] ys h = h
all_right (x ∷ xs) ys h = all_right xs ys h.1

all_left : (xs ys : List ℕ) → Bytes (xs ++ ys) → Bytes xs
all_left [] ys h = tt
all_left (x ∷ xs) ys h = (h.0, all_left xs ys h.1)

pub matches_same : (xs ys : List ℕ) → xs ≡ ys → Matches xs ys
matches_same xs ys e = (ap length e, λ h. e)

pub matches_at : (xs ys zs : List ℕ) → ys ≡ zs → Matches xs ys → Matches xs zs
matches_at xs ys zs e m = (m.0 ∙ ap length e, λ h. m.1 h ∙ e)

pub matches_cons : (b : ℕ) (xs ys : List ℕ) → Matches xs ys → Matches (b ∷ xs) (b ∷ ys)
matches_cons b xs ys m = (ap suc m.0, λ h. ap (λ z. b ∷ z) (m.1 h.1))

pub matches_before : (xs ys zs : List ℕ) → Matches xs ys → Matches (xs ++ zs) (ys ++ zs)
matches_before xs ys zs m =
    (length-append xs zs ∙ ap (λ n. n + length zs) m.0 ∙ sym (length-append ys zs), λ h. ap (λ z. z ++ zs) (m.1 (all_left xs zs h)))

-- what comes after a part that matches
pub matches_onto : (bs p r q : List ℕ) → Matches bs (p ++ r) → Matches r q → Matches bs (p ++ q)
matches_onto bs p r q m n = (
  m.0 ∙ length-append p r ∙ ap (λ z. length p + z) n.0 ∙ sym (length-append p q),
  λ h. m.1 h ∙ ap (λ z. p ++ z) (n.1 (all_right p r (subst Bytes (m.1 h) h))),
)

-- a test that leads to this end only by one way
pub by_second : {A : Type 0} (b : Bool) (x y z : A) → (x ≡ z → ⊥) → cond b x y ≡ z → (b ≡ false) × (y ≡ z)
by_second true x y z un e = absurd (un e)
by_second false x y z un e = (refl, e)

pub by_first : {A : Type 0} (b : Bool) (x y z : A) → (y ≡ z → ⊥) → cond b x y ≡ z → (b ≡ true) × (x ≡ z)
by_first true x y z un e = (refl, e)
by_first false x y z un e = absurd (un e)

module _ {A : Type 0} (a : A) (rest : List ℕ) where
  wanting≢found : wanting ≡ found a rest → ⊥
  wanting≢found e = cc

  wrong≢found : (f : Fault) → wrong f ≡ found a rest → ⊥
  wrong≢found f e = cc

-- two bytes are those of their number
pub pair_of : (a b : ℕ) → a < 256 → b < 256 → (of_z w16 (coordinate a b) / 256 ≡ a) × (of_z w16 (coordinate a b) % 256 ≡ b)
pair_of a b h l =
    let f : of_z w16 (coordinate a b) ≡ a * 256 + b = of_z-to_z w16 (a * 256 + b) (omega arith) in
    (ap (λ z. z / 256) f ∙ digits_div a l, ap (λ z. z % 256) f ∙ digits_mod a l)

pub pair_matches : (a b c d : ℕ) (rest : List ℕ) → Matches (a ∷ b ∷ c ∷ d ∷ rest) (spell_pair (coordinate a b) (coordinate c d) ++ rest)
pair_matches a b c d rest = (refl, λ h. same (pair_of a b h.0 h.1.0) (pair_of c d h.1.1.0 h.1.1.1.0))
  where
    same : (of_z w16 (coordinate a b) / 256 ≡ a) × (of_z w16 (coordinate a b) % 256 ≡ b) → (of_z w16 (coordinate c d) / 256 ≡ c) × (of_z w16 (coordinate c d) % 256 ≡ d)
        → a ∷ b ∷ c ∷ d ∷ rest ≡ spell_pair (coordinate a b) (coordinate c d) ++ rest
    same p q = λ i. sym p.0 i ∷ sym p.1 i ∷ sym q.0 i ∷ sym q.1 i ∷ rest

-- a count of two bytes
long_matches : (h l : ℕ) (rest : List ℕ) → 128 ≤ h → ltb ((h - 128) * 256 + l) 128 ≡ false → Matches (h ∷ l ∷ rest) (spell_count ((h - 128) * 256 + l) ++ rest)
long_matches h l rest g e =
    let n = (h - 128) * 256 + l in
    matches_at (h ∷ l ∷ rest) ((128 + n / 256) ∷ (n % 256) ∷ rest) (spell_count n ++ rest)
    (ap (λ b. cond b (n ∷ []) ((128 + n / 256) ∷ (n % 256) ∷ []) ++ rest) (sym e)) (refl, λ a. same a.1.0)
  where
    same : l < 256 → h ∷ l ∷ rest ≡ (128 + ((h - 128) * 256 + l) / 256) ∷ (((h - 128) * 256 + l) % 256) ∷ rest
    same lt =
        let d : ((h - 128) * 256 + l) / 256 ≡ h - 128 = digits_div (h - 128) lt in
        let hi : h ≡ 128 + ((h - 128) * 256 + l) / 256 = omega arith in
        λ i. hi i ∷ sym (digits_mod (h - 128) lt) i ∷ rest

long_found : (h : ℕ) (bs : List ℕ) (n : ℕ) (rest : List ℕ) → 128 ≤ h → long_count h bs ≡ found n rest → Matches (h ∷ bs) (spell_count n ++ rest)
long_found h [] n rest g e = absurd (cc)
long_found h (l ∷ bs) n rest g e =
    let m = (h - 128) * 256 + l in
    let p = by_second (ltb m 128) (wrong fault.ShortCount) (found m bs) (found n rest) (wrong≢found n rest fault.ShortCount) e in
    let q = p.1 in
    let en : m ≡ n = cc in
    let er : bs ≡ rest = cc in
    matches_at (h ∷ l ∷ bs) (spell_count m ++ bs) (spell_count n ++ rest) (λ i. spell_count (en i) ++ er i) (long_matches h l bs g p.0)

short_found : (b : ℕ) (bs : List ℕ) (n : ℕ) (rest : List ℕ) → ltb b 128 ≡ true → found b bs ≡ found n rest → Matches (b ∷ bs) (spell_count n ++ rest)
short_found b bs n rest k e =
    let en : b ≡ n = cc in
    let er : bs ≡ rest = cc in
    matches_same (b ∷ bs) (spell_count n ++ rest)
    (ap (λ z. cond z (b ∷ []) ((128 + b / 256) ∷ (b % 256) ∷ []) ++ bs) (sym k) ∙ (λ i. spell_count (en i) ++ er i))

count_found : (bs : List ℕ) (n : ℕ) (rest : List ℕ) → count bs ≡ found n rest → Matches bs (spell_count n ++ rest)
count_found [] n rest e = absurd (cc)
count_found (b ∷ bs) n rest e = by (ltb b 128) refl e
  where
    by : (t : Bool) → ltb b 128 ≡ t → cond t (found b bs) (long_count b bs) ≡ found n rest → Matches (b ∷ bs) (spell_count n ++ rest)
    by true k p = short_found b bs n rest k p
    by false k p = long_found b bs n rest (ltb-false b 128 k) p

pub string_found : (limit : ℕ) (bs t rest : List ℕ) → string limit bs ≡ found t rest → Matches bs (spell_string t ++ rest) × (length t ≤ limit)
string_found limit bs t rest e = by (count bs) refl e
  where
    by : (p : Front ℕ) → count bs ≡ p → measured limit p ≡ found t rest → Matches bs (spell_string t ++ rest) × (length t ≤ limit)
    by wanting c m = absurd (cc)
    by (wrong f) c m = absurd (cc)
    by (found n after) c m =
        let p = by_second (ltb limit n) (wrong fault.TooLong) (cond (ltb (length after) n) wanting (found (take n after) (drop n after))) (found t rest) (wrong≢found t rest fault.TooLong) m in
        let q = by_second (ltb (length after) n) wanting (found (take n after) (drop n after)) (found t rest) (wanting≢found t rest) p.1 in
        let f = q.1 in
        let et : take n after ≡ t = cc in
        let er : drop n after ≡ rest = cc in
        let len : length t ≡ n = ap length (sym et) ∙ length-take-le n after (ltb-false (length after) n q.0) in
        let whole : after ≡ t ++ rest = sym (take-append-drop n after) ∙ (λ i. et i ++ er i) in
        let limited : n ≤ limit = ltb-false limit n p.0 in (
          matches_at bs (spell_count n ++ after) (spell_string t ++ rest)
              ((λ i. spell_count (sym len i) ++ whole i) ∙ sym (append_assoc (spell_count (length t)) t rest)) (count_found bs n after c),
          omega arith,
        )

-- a count is found where it is spelt
count_spelt : (n : ℕ) (rest : List ℕ) → count (spell_count n ++ rest) ≡ found n rest
count_spelt n rest = by (ltb n 128) refl
  where
    by : (t : Bool) → ltb n 128 ≡ t → count (cond t (n ∷ []) ((128 + n / 256) ∷ (n % 256) ∷ []) ++ rest) ≡ found n rest
    by true e = ap (λ b. cond b (found n rest) (long_count n rest)) e
    by false e =
        let h = 128 + n / 256 in
        let wide : ltb h 128 ≡ false = le-ltb h 128 (omega arith) in
        let number : (h - 128) * 256 + n % 256 ≡ n = let q : h - 128 ≡ n / 256 = omega arith in ap (λ z. z * 256 + n % 256) q ∙ div-add-mod' n 256 in
        ap (λ b. cond b (found h ((n % 256) ∷ rest)) (long_count h ((n % 256) ∷ rest))) wide
        ∙ ap (λ m. cond (ltb m 128) (wrong fault.ShortCount) (found m rest)) number ∙ ap (λ b. cond b (wrong fault.ShortCount) (found n rest)) e

pub string_spelt : (limit : ℕ) (t rest : List ℕ) → length t ≤ limit → string limit (spell_string t ++ rest) ≡ found t rest
string_spelt limit t rest h =
    let n = length t in
    let few : ltb limit n ≡ false = le-ltb limit n h in
    let enough : ltb (length (t ++ rest)) n ≡ false = le-ltb (length (t ++ rest)) n (omega (arith, length-append t rest)) in
    ap (string limit) (append_assoc (spell_count n) t rest) ∙ ap (measured limit) (count_spelt n (t ++ rest))
    ∙ ap (λ b. cond b (wrong fault.TooLong) (cond (ltb (length (t ++ rest)) n) wanting (found (take n (t ++ rest)) (drop n (t ++ rest))))) few
    ∙ ap (λ b. cond b wanting (found (take n (t ++ rest)) (drop n (t ++ rest)))) enough
    ∙ (λ i. found (take_at t rest n refl i) (drop_at t rest n refl i))
