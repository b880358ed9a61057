-- A page and the line below it.
use Rattle.std.proofs.Common.{◌≡◌, ℕ, ◌+◌, ◌-◌, ◌≤◌, cond, List, ◌++◌, length, drop, sym, ap, ◌∙◌, arith, length-append, append_assoc}
use borrow.Rule.Slice.PartMut.{put_mid}
use lib.Seq.{take_at, drop_at, drop-drop}
use Rattle.std.proofs.lemmas.Bool.{le-leb}
use Rattle.printing.specs.Prints.{overlaid}

laid_over : (text buffer : List ℕ) → length text ≤ length buffer → text ++ drop (length text) buffer ≡ overlaid text buffer
laid_over text buffer h = ap (λ b. cond b (text ++ drop (length text) buffer) buffer) (sym (le-leb (length text) (length buffer) h))

-- a page put at the front of a buffer, and the line behind it
pub whole_laid :
    (page line top below buffer : List ℕ) (at size : ℕ) → at ≡ length page → size ≡ length line → at + size ≤ length buffer → top ≡ page → below ≡ line
    → put_mid at (at + size - at) (top ++ drop at buffer) below ≡ overlaid (page ++ line) buffer
whole_laid page line top below buffer at size n s h t l =
    let long : length top ≡ at = ap length t ∙ sym n in
    let end : at + (at + size - at) ≡ length (page ++ line) = omega (arith, length-append page line) in
    (λ i. take_at top (drop at buffer) at long i ++ (below ++ drop (at + size - at) (drop_at top (drop at buffer) at long i)))
    ∙ (λ i. t i ++ (l i ++ drop-drop (at + size - at) at buffer i))
    ∙ sym (append_assoc page line (drop (at + (at + size - at)) buffer))
    ∙ ap (λ n. (page ++ line) ++ drop n buffer) end
    ∙ laid_over (page ++ line) buffer (omega (arith, length-append page line))
