-- Operations, one by one, against the book of a whole list.
use Rattle.std.proofs.Common.{◌≡◌, ℕ, suc, ◌+◌, true, false, List, [], ◌∷◌, ◌++◌, length, set, is_ok, Some, None, Ok, Err, Option, Result, sym, refl, ap, ◌∙◌, add-zero, arith, length-append, Bor}
use lib.Seq.{sets, length-sets}
use Rattle.std.proofs.lemmas.Bool.{true≢false, false≢true}
use Rattle.statement.specs.declared.types.Statement.{Statement}
use Rattle.statement.specs.Statements.{Said, erase, endpic, subhed, subend, act}
use Rattle.statement.specs.Views.{said_by}
use Rattle.spelling.specs.Spelling.{spell}
use Rattle.spelling.specs.Laws.{spell_all}
use Rattle.writer.specs.declared.types.Opened.{Opened}
use Rattle.writer.specs.declared.types.Opened.TheVariants as opened
use Rattle.history.specs.declared.operation.Operation.{Operation}
use Rattle.history.specs.declared.operation.Operation.TheVariants.{Picture, Definition, Write, Close}
use Rattle.writer.specs.declared.types.Refusal.{Refusal}
use Rattle.writer.specs.Names.{with_name}
use Rattle.writer.specs.Answers.{frames, write_answer, picture_answer, definition_answer, heading, closing, passed}
use Rattle.history.specs.Tales.{State, idle, busy, after, where_fine, taken, onward, tale, Book, book}
use Rattle.writer.proofs.Judged.{writes}

pub sets_append : (xs ys out : List ℕ) (at : ℕ) → sets out at (xs ++ ys) ≡ sets (sets out at xs) (at + length xs) ys
sets_append [] ys out at = ap (λ z. sets out z ys) (sym (add-zero at))
sets_append (x ∷ xs) ys out at =
    let e : suc at + length xs ≡ at + suc (length xs) = omega arith in
    sets_append xs ys (set out at x) (suc at) ∙ ap (λ z. sets (sets (set out at x) (suc at) xs) z ys) e

-- the book where the statements to come are known
abbrev kept : List ℕ → ℕ → ℕ → List Said → Book
kept out used size ss = record { bytes = sets out used (spell_all ss); reach = used + length (spell_all ss); size = size }

kept_more : (out : List ℕ) (used size : ℕ) (s : Said) (ss : List Said) → kept (sets out used (spell s)) (used + length (spell s)) size ss ≡ kept out used size (s ∷ ss)
kept_more out used size s ss =
    let b = sym (sets_append (spell s) (spell_all ss) out used) in
    let n = length-append (spell s) (spell_all ss) in
    let u : used + length (spell s) + length (spell_all ss) ≡ used + length (spell s ++ spell_all ss) = omega arith in
    λ i. record { bytes = b i; reach = u i; size = size }

module _ (out : List ℕ) (st : State) (op : Operation) (rest : List Operation) where
  abbrev then_on : Option Said → Book
  then_on o = kept out st.filled (length out) (onward o st (λ st'. tale (length out) st' rest))

  pub book_skip : taken (length out) st st.inside op ≡ None → book out st rest ≡ book out st (op ∷ rest)
  book_skip e = ap then_on (sym e)

  pub book_more : (s : Said) → taken (length out) st st.inside op ≡ Some s → book (sets out st.filled (spell s)) (after st s) rest ≡ book out st (op ∷ rest)
  book_more s e =
      ap (λ m. kept (sets out st.filled (spell s)) (st.filled + length (spell s)) m (tale m (after st s) rest)) (length-sets out st.filled (spell s))
      ∙ kept_more out st.filled (length out) s (tale (length out) (after st s) rest) ∙ ap then_on (sym e)

pub busy_same : {out out' : List ℕ} {o o' : Opened} {ns ns' : List (List ℕ)} {n n' : ℕ} (rest : List Operation) → out ≡ out' → o ≡ o' → ns ≡ ns' → n ≡ n'
    → book out (busy o ns n) rest ≡ book out' (busy o' ns' n') rest
busy_same rest p q r t = λ i. book (p i) (busy (q i) (r i) (t i)) rest

pub idle_same : {out out' : List ℕ} {ns ns' : List (List ℕ)} {n n' : ℕ} (rest : List Operation) → out ≡ out' → ns ≡ ns' → n ≡ n'
    → book out (idle ns n) rest ≡ book out' (idle ns' n') rest
idle_same rest p r t = λ i. book (p i) (idle (r i) (t i)) rest

-- a statement that neither opens nor closes
pub after_write : (st : State) (s : Said) → frames s ≡ false → after st s ≡ record { inside = st.inside; named = st.named; filled = st.filled + length (spell s) }
after_write st erase e = absurd (true≢false e)
after_write st endpic e = absurd (true≢false e)
after_write st (subhed n h) e = absurd (true≢false e)
after_write st subend e = absurd (true≢false e)
after_write st (act a) e = refl

pub after_close : (o : Opened) (ns : List (List ℕ)) (n : ℕ) → after (busy o ns n) (closing o) ≡ idle ns (n + length (spell (closing o)))
after_close opened.Picture ns n = refl
after_close (opened.Definition at) ns n = refl

pub one_closing : (o : Opened) → length (spell (closing o)) ≡ 1
one_closing opened.Picture = refl
one_closing (opened.Definition at) = refl

module _ (out : List ℕ) (ns : List (List ℕ)) (n : ℕ) (rest : List Operation) where
  pub book_write : (o : Opened) (s : Statement) (r : Result (Unit {0}) Refusal) → r ≡ write_answer o n (length out) (said_by s)
      → book (sets out n (passed r (spell (said_by s)))) (busy o ns (n + length (passed r (spell (said_by s))))) rest ≡ book out (busy o ns n) (Write s ∷ rest)
  book_write o s (Ok x) e =
      let w = writes o n (length out) (said_by s) (sym e) in
      ap (λ st. book (sets out n (spell (said_by s))) st rest) (sym (after_write (busy o ns n) (said_by s) w.unframed))
      ∙ book_more out (busy o ns n) (Write s) rest (said_by s) (ap (λ z. where_fine z (said_by s)) (sym e))
  book_write o s (Err f) e =
      ap (λ z. book out (busy o ns z) rest) (add-zero n) ∙ book_skip out (busy o ns n) (Write s) rest (ap (λ z. where_fine z (said_by s)) (sym e))

  pub book_close : (o : Opened) → book (sets out n (spell (closing o))) (idle ns (n + length (spell (closing o)))) rest ≡ book out (busy o ns n) (Close ∷ rest)
  book_close o =
      ap (λ st. book (sets out n (spell (closing o))) st rest) (sym (after_close o ns n)) ∙ book_more out (busy o ns n) Close rest (closing o) refl

  pub book_picture : picture_answer n (length out) ≡ Ok tt
      → book (sets out n (spell erase)) (busy opened.Picture ns (n + length (spell erase))) rest ≡ book out (idle ns n) (Picture ∷ rest)
  book_picture e = book_more out (idle ns n) Picture rest erase (ap (λ z. where_fine z erase) e)

  pub book_definition : (m : Bor (List ℕ)) (h : ℕ) → definition_answer ns n (length out) m.now h ≡ Ok tt
      → book (sets out n (spell (heading m.now h))) (busy (opened.Definition (n + length (spell (heading m.now h)))) (with_name ns m.now) (n + length (spell (heading m.now h)))) rest
      ≡ book out (idle ns n) (Definition m h ∷ rest)
  book_definition m h e = book_more out (idle ns n) (Definition m h) rest (heading m.now h) (ap (λ z. where_fine z (heading m.now h)) e)

-- the end of the list
pub book_end : (out : List ℕ) (ns : List (List ℕ)) (n : ℕ) (o : Opened) → book (sets out n (spell (closing o))) (idle ns (n + length (spell (closing o)))) [] ≡ book out (busy o ns n) []
book_end out ns n o =
    ap (λ m. kept (sets out n (spell (closing o))) (n + length (spell (closing o))) m []) (length-sets out n (spell (closing o))) ∙ kept_more out n (length out) (closing o) []

-- a list whose first operation is known
pub book_from : (out : List ℕ) (st : State) (op first : Operation) (ops rest : List Operation) → ops ≡ first ∷ rest → first ≡ op → book out st (op ∷ rest) ≡ book out st ops
book_from out st op first ops rest h e =
    let f : List Operation → Book = book out st in
    ap (λ o. f (o ∷ rest)) (sym e) ∙ ap f (sym h)

pub ok_is : (r : Result (Unit {0}) Refusal) → is_ok r ≡ true → r ≡ Ok tt
ok_is (Ok x) e = refl
ok_is (Err f) e = absurd (false≢true e)

pub none_fine : (r : Result (Unit {0}) Refusal) (s : Said) → is_ok r ≡ false → where_fine r s ≡ None
none_fine (Ok x) s e = absurd (true≢false e)
none_fine (Err f) s e = refl
