-- What a finished book says.
use Rattle.std.proofs.Common.{◌≡◌, ℕ, ◌+◌, ◌≤◌, List, [], ◌++◌, length, take, drop, sym, ap, ◌∙◌, zero-add, arith}
use lib.Seq.{sets-eq}
use Rattle.std.proofs.lemmas.List.{take_at}
use Rattle.spelling.specs.Walking.{read_back}
use Rattle.spelling.specs.Laws.{spell_all, recited}
use Rattle.walking.proofs.Walks.{reads_back}
use Rattle.history.specs.declared.operation.Operation.{Operation}
use Rattle.history.specs.Tales.{idle, accepted, book}
use Rattle.history.proofs.Accepts.{accepts_lawful}

pub record Written (out : List ℕ) (n : ℕ) (was : List ℕ) (ops : List Operation) : Type 0 where
  pub count : n ≡ length (spell_all (accepted (length was) ops))
  pub bytes : out ≡ spell_all (accepted (length was) ops) ++ drop (length (spell_all (accepted (length was) ops))) was
  pub back : read_back (take n out) ≡ recited (accepted (length was) ops)

pub written : (out : List ℕ) (ns : List (List ℕ)) (n : ℕ) (was : List ℕ) (ops : List Operation)
    → book out (idle ns n) [] ≡ book was (idle [] 0) ops → n ≤ length out → length out ≤ 16777216 → Written out n was ops
written out ns n was ops e within few =
    let ss = accepted (length was) ops in
    let reach : n + 0 ≡ 0 + length (spell_all ss) = ap (λ z. z.reach) e in
    let size : length out ≡ length was = ap (λ z. z.size) e in
    let count : n ≡ length (spell_all ss) = omega arith in
    let fits : 0 + length (spell_all ss) ≤ length was = omega arith in
    let bytes : out ≡ spell_all ss ++ drop (length (spell_all ss)) was
    = ap (λ z. z.bytes) e ∙ sets-eq (spell_all ss) was 0 fits ∙ ap (λ k. spell_all ss ++ drop k was) (zero-add (length (spell_all ss))) in
    record {
      count = count;
      bytes = bytes;
      back =
          ap (λ z. read_back (take n z)) bytes ∙ ap read_back (take_at (spell_all ss) (drop (length (spell_all ss)) was) n (sym count))
          ∙ reads_back ss (accepts_lawful (length was) ops) (omega arith);
    }
