use Rattle.std.proofs.Common.{◌≡◌, ℕ, ◌+◌, ◌-◌, ◌≤◌, Bool, true, false, not, leb, List, ◌++◌, length, take, refl, arith, length-append, length-take, rules, le-leb, leb-false, leb-true}
use borrow.Author.Tests.{lt-leb}
use Rattle.calls.proofs.types.Definition.has_room.Goals as goal

module _ (len : ℕ) (b bs : List ℕ) (fits : len ≤ 1024) (sized : length b ≡ 1024) where
  size : length (take len b ++ bs) ≡ len + length bs
  size = simp (length-append, length-take) (omega arith)

  by : (t : Bool) → leb (length bs) (1024 - len) ≡ t → leb 1025 (length (take len b ++ bs)) ≡ not t
  by true e = lt-leb 1025 (length (take len b ++ bs)) (omega (arith, size, leb-true (length bs) (1024 - len) e))
  by false e = le-leb 1025 (length (take len b ++ bs)) (omega (arith, size, leb-false (length bs) (1024 - len) e))

pub returns : goal.returns
returns c =
    let d = c.args.self.now in
    let bs = c.args.bytes.now in
    let l : length d.body ≡ 1024 = search rules in
    let fits : d.len ≤ 1024 = d.fits in
    record { value = by d.len d.body bs fits l (leb (length bs) (1024 - d.len)) refl; room = λ e. omega (arith, leb-true (length bs) (1024 - d.len) e) }
