-- The tail of a call: what is found in bytes is spelt by them, and what is spelt is found.
use Rattle.std.proofs.Common.{◌≡◌, ℕ, ◌/◌, ◌%◌, ◌≤◌, Bool, true, false, cond, ◌&&◌, eqb, leb, ◌⊎◌, List, [], ◌∷◌, ◌++◌, length, take, drop, ℤ, pos, negsuc, Some, None, Option, sym, refl, ap, ◌∙◌, subst, inl, inr, div-add-mod', arith, length-append, w16, SFits, to_z, of_z}
use Rattle.std.proofs.lemmas.List.{take-append-drop, length-take-le, take_at, drop_at}
use Rattle.std.proofs.lemmas.Int.{to_z-of_z}
use Rattle.std.proofs.lemmas.Bool.{eqb-true, leb-true, le-leb, and_parts, and_from}
use Rattle.std.proofs.lemmas.Bool.Decides.{nat_tests}
use Rattle.std.proofs.lemmas.Option.{none-some}
use Rattle.statement.specs.declared.layout.Aim.{Aim}
use Rattle.statement.specs.declared.layout.Aim.TheVariants as aim
use Rattle.statement.specs.Statements.{CallTail, empty, coded}
use Rattle.statement.specs.Reading.{coordinate, lawful, lawful_at, lawful_tail, tail_at, tail_end, tail_as, tail_of}
use Rattle.spelling.specs.Spelling.{spell_pair, spell_at, spell_tail, tail_fits}
use Rattle.spelling.proofs.Fronts.{Matches, matches_same, matches_at, matches_cons, matches_onto, by_first, pair_matches}

pub pick : {A : Type 0} (b : Bool) (x y z : A) → cond b x y ≡ z → ((b ≡ true) × (x ≡ z)) ⊎ ((b ≡ false) × (y ≡ z))
pick true x y z e = inl (refl, e)
pick false x y z e = inr (refl, e)

end_found : (a : Option (List ℕ)) (xs : List ℕ) (t : CallTail) → tail_end a xs ≡ Some t → (coded a None ≡ t) × (xs ≡ [])
end_found a [] t e = (cc, refl)
end_found a (b ∷ xs) t e = absurd (cc)

abbrev Pointed : Option (List ℕ) → List ℕ → CallTail → Type 0
Pointed a xs t = (p : ℤ × ℤ) × (coded a (Some p) ≡ t) × Matches xs (spell_pair p.0 p.1)

at_found : (a : Option (List ℕ)) (xs : List ℕ) (t : CallTail) → tail_at a xs ≡ Some t → Pointed a xs t
at_found a [] t e = absurd (cc)
at_found a (b ∷ []) t e = absurd (cc)
at_found a (b ∷ c ∷ []) t e = absurd (cc)
at_found a (b ∷ c ∷ d ∷ []) t e = absurd (cc)
at_found a (b ∷ c ∷ d ∷ f ∷ []) t e = ((coordinate b c, coordinate d f), cc, pair_matches b c d f [])
at_found a (b ∷ c ∷ d ∷ f ∷ g ∷ xs) t e = absurd (cc)

-- a name in a tail, with what follows it
record Named (k : Option (List ℕ) → List ℕ → Option CallTail) (xs : List ℕ) (t : CallTail) : Type 0 where
  name : List ℕ
  rest : List ℕ
  short : leb (length name) 8 ≡ true
  then : k (Some name) rest ≡ Some t
  spelt : Matches xs ((length name ∷ name) ++ rest)

as_found : (k : Option (List ℕ) → List ℕ → Option CallTail) (xs : List ℕ) (t : CallTail) → tail_as k xs ≡ Some t → Named k xs t
as_found k [] t e = absurd (cc)
as_found k (n ∷ xs) t e =
    let p = by_first (leb n 8 && leb n (length xs)) (k (Some (take n xs)) (drop n xs)) None (Some t) (none-some t) e in
    let q = and_parts (leb n 8) (leb n (length xs)) p.0 in
    let len : length (take n xs) ≡ n = length-take-le n xs (leb-true n (length xs) q.1) in
    record {
      name = take n xs;
      rest = drop n xs;
      short = ap (λ z. leb z 8) len ∙ q.0;
      then = p.1;
      spelt = matches_same (n ∷ xs) ((length (take n xs) ∷ take n xs) ++ drop n xs) (λ i. sym len i ∷ sym (take-append-drop n xs) i);
    }

abbrev pub TailFound : List ℕ → CallTail → Type 0
TailFound bs t = Matches bs (spell_tail t) × (tail_fits t ≡ true)

tail_found_at : (bs : List ℕ) (t t' : CallTail) → t ≡ t' → TailFound bs t → TailFound bs t'
tail_found_at bs t t' e h = subst (TailFound bs) e h

code_at : (c k : ℕ) (rest : List ℕ) (t : CallTail) → eqb c k ≡ true → TailFound (k ∷ rest) t → TailFound (c ∷ rest) t
code_at c k rest t e h = subst (λ z. TailFound (z ∷ rest) t) (sym (eqb-true c k e)) h

bare_tail_found : (rest : List ℕ) (t : CallTail) → tail_end None rest ≡ Some t → TailFound (0x00 ∷ rest) t
bare_tail_found rest t e =
    let p = end_found None rest t e in
    tail_found_at (0x00 ∷ rest) (coded None None) t p.0 (matches_same (0x00 ∷ rest) (0x00 ∷ []) (ap (λ z. 0x00 ∷ z) p.1), refl)

point_tail : (rest : List ℕ) (t : CallTail) → tail_at None rest ≡ Some t → TailFound (0x40 ∷ rest) t
point_tail rest t e =
    let p = at_found None rest t e in
    tail_found_at (0x40 ∷ rest) (coded None (Some p.0)) t p.1 (matches_cons 0x40 rest (spell_pair p.0.0 p.0.1) p.2, refl)

name_tail : (rest : List ℕ) (t : CallTail) → tail_as tail_end rest ≡ Some t → TailFound (0x80 ∷ rest) t
name_tail rest t e =
    let n = as_found tail_end rest t e in
    let p = end_found (Some n.name) n.rest t n.then in
    tail_found_at (0x80 ∷ rest) (coded (Some n.name) None) t p.0 (
      matches_cons 0x80 rest ((length n.name ∷ n.name) ++ [])
          (matches_at rest ((length n.name ∷ n.name) ++ n.rest) ((length n.name ∷ n.name) ++ []) (ap (λ z. (length n.name ∷ n.name) ++ z) p.1) n.spelt),
      n.short,
    )

both_tail : (rest : List ℕ) (t : CallTail) → tail_as tail_at rest ≡ Some t → TailFound (0xC0 ∷ rest) t
both_tail rest t e =
    let n = as_found tail_at rest t e in
    let p = at_found (Some n.name) n.rest t n.then in
    let q = spell_pair p.0.0 p.0.1 in
    tail_found_at (0xC0 ∷ rest) (coded (Some n.name) (Some p.0)) t p.1
    (matches_cons 0xC0 rest ((length n.name ∷ n.name) ++ q) (matches_onto rest (length n.name ∷ n.name) n.rest q n.spelt p.2), n.short)

pub tail_found : (bs : List ℕ) (t : CallTail) → tail_of bs ≡ Some t → TailFound bs t
tail_found [] t e = let p : empty ≡ t = cc in tail_found_at [] empty t p (matches_same [] [] refl, refl)
tail_found (c ∷ rest) t e =
    elim (pick (eqb c 0x00) _ _ _ e) [
      | inl p ↦ code_at c 0x00 rest t p.0 (bare_tail_found rest t p.1)
      | inr p0 ↦
          elim (pick (eqb c 0x40) _ _ _ p0.1) [
            | inl p ↦ code_at c 0x40 rest t p.0 (point_tail rest t p.1)
            | inr p1 ↦
                elim (pick (eqb c 0x80) _ _ _ p1.1) [
                  | inl p ↦ code_at c 0x80 rest t p.0 (name_tail rest t p.1)
                  | inr p2 ↦
                      elim (pick (eqb c 0xC0) _ _ _ p2.1) [
                        | inl p ↦ code_at c 0xC0 rest t p.0 (both_tail rest t p.1)
                        | inr p3 ↦ absurd (none-some t p3.1)
                      ]
                ]
          ]
    ]

-- a lawful coordinate fits its two bytes
lawful_fits : (a : Aim) (z : ℤ) → lawful a z ≡ true → SFits w16 z
lawful_fits aim.Absolute (pos n) e = record { sfits = grind (arith, nat_tests) }
lawful_fits aim.Absolute (negsuc n) e = record { sfits = grind (arith, nat_tests) }
lawful_fits aim.Relative (pos n) e = record { sfits = grind (arith, nat_tests) }
lawful_fits aim.Relative (negsuc n) e = record { sfits = grind (arith, nat_tests) }

pub coordinate_spelt : (a : Aim) (z : ℤ) → lawful a z ≡ true → coordinate (of_z w16 z / 256) (of_z w16 z % 256) ≡ z
coordinate_spelt a z e = ap (to_z w16) (div-add-mod' (of_z w16 z) 256) ∙ to_z-of_z w16 z (lawful_fits a z e)

at_spelt : (a : Option (List ℕ)) (p : ℤ × ℤ) → lawful_at (Some p) ≡ true → tail_at a (spell_at (Some p)) ≡ Some (coded a (Some p))
at_spelt a p e =
    let q = and_parts (lawful aim.Absolute p.0) (lawful aim.Absolute p.1) e in
    λ i. Some (coded a (Some (coordinate_spelt aim.Absolute p.0 q.0 i, coordinate_spelt aim.Absolute p.1 q.1 i)))

as_spelt : (k : Option (List ℕ) → List ℕ → Option CallTail) (n rest : List ℕ) → leb (length n) 8 ≡ true → tail_as k ((length n ∷ n) ++ rest) ≡ k (Some n) rest
as_spelt k n rest h =
    let m = length n in
    let all : leb m (length (n ++ rest)) ≡ true = le-leb m (length (n ++ rest)) (omega (arith, length-append n rest)) in
    ap (λ b. cond b (k (Some (take m (n ++ rest))) (drop m (n ++ rest))) None) (and_from (leb m 8) (leb m (length (n ++ rest))) h all)
    ∙ (λ i. k (Some (take_at n rest m refl i)) (drop_at n rest m refl i))

pub tail_spelt : (t : CallTail) → tail_fits t ≡ true → lawful_tail t ≡ true → tail_of (spell_tail t) ≡ Some t
tail_spelt empty f l = refl
tail_spelt (coded None None) f l = refl
tail_spelt (coded None (Some p)) f l = at_spelt None p l
tail_spelt (coded (Some n) None) f l = as_spelt tail_end n [] f
tail_spelt (coded (Some n) (Some p)) f l = as_spelt tail_at n (spell_at (Some p)) f ∙ at_spelt (Some n) p l

-- a tail that fits is at most 14 bytes long
pub tail_short : (t : CallTail) → tail_fits t ≡ true → length (spell_tail t) ≤ 14
tail_short empty f = omega arith
tail_short (coded None None) f = omega arith
tail_short (coded None (Some p)) f = omega arith
tail_short (coded (Some n) None) f = omega (arith, leb-true (length n) 8 f, length-append n [])
tail_short (coded (Some n) (Some p)) f = omega (arith, leb-true (length n) 8 f, length-append n (spell_at (Some p)))
