-- What a finished ledger says.
use Rattle.std.proofs.Common.{◌≡◌, ℕ, ◌+◌, ◌^◌, ◌<◌, ◌≤◌, List, [], ◌∷◌, ◌++◌, map, length, take, drop, Some, None, Ok, Option, sym, ap, ◌∙◌, zero-add, arith}
use lib.Seq.{sets-eq}
use Rattle.std.proofs.lemmas.List.{take_at}
use Rattle.statement.specs.declared.types.Standing.TheVariants.{Outside}
use Rattle.walking.specs.declared.walker.End.TheVariants as end
use Rattle.spelling.specs.Laws.{spell_all, placed, recited}
use Rattle.spelling.specs.Walking.{read_back}
use Rattle.walking.specs.Stories.{end_at, end_of}
use Rattle.spelling.specs.Answers.{over_front}
use Rattle.walking.proofs.Walks.{reads_back}
use Rattle.writer.specs.Answers.{make_answer}
use Rattle.listing.specs.Lines.{end_line, lines, listed}
use Rattle.wording.proofs.Sound.{words_only}
use Rattle.history.specs.Tales.{idle}
use Rattle.composing.specs.declared.types.Failure.{Failure}
use Rattle.composing.specs.Lines.{saying, lines_of}
use Rattle.composing.specs.Composed.{composing, Composed, composed_in, composed, answering, end_ledger, on_ledger}
use Rattle.composing.specs.Laws.{spoken, Made, Makes}
use Rattle.composing.proofs.Told.{composing_told, composing_spoken}
use Rattle.composing.proofs.Again.{lines_endless, last_line, listing_spoken, spoken_sounds, composing_again}

pub record Finished (f : Option Failure) (out : List ℕ) (used : ℕ) (was text : List ℕ) (c : Composed) : Type 0 where
  pub failed : f ≡ c.failed
  pub count : used ≡ length (spell_all c.written)
  pub bytes : out ≡ over_front (spell_all c.written) was
  pub makes : Makes (answering f used) text was out

module _ (f : Option Failure) (out : List ℕ) (used : ℕ) (was text : List ℕ) (e : end_ledger f out used ≡ on_ledger None was (idle [] 0) 0 (lines_of text)) (within : used ≤ length out) (few : length out ≤ 16777216) (asked : make_answer (length was) ≡ Ok tt) where
  abbrev all : Composed
  all = composing (length was) (idle [] 0) 0 (lines_of text)

  count_is : used ≡ length (spell_all all.written)
  count_is = let reach : used ≡ 0 + length (spell_all all.written) = ap (λ z. z.reach) e in omega arith

  bytes_are : out ≡ over_front (spell_all all.written) was
  bytes_are =
      let size : length out ≡ length was = ap (λ z. z.size) e in
      let n = count_is in
      let fits : 0 + length (spell_all all.written) ≤ length was = omega arith in
      ap (λ z. z.bytes) e ∙ sets-eq (spell_all all.written) was 0 fits ∙ ap (λ k. spell_all all.written ++ drop k was) (zero-add (length (spell_all all.written)))

  made_so : all.failed ≡ None → Made text used was out
  made_so g =
      let ss = all.written in
      let t = composing_told (length was) (lines_of text) (idle [] 0) 0 in
      let p = composing_spoken (length was) (lines_of text) (idle [] 0) 0 g in
      let n = count_is in
      let short : length (spell_all ss) ≤ 16777216 = omega arith in
      let back : read_back (take used out) ≡ recited ss
      = ap (λ z. read_back (take used z)) bytes_are ∙ ap read_back (take_at (spell_all ss) (drop (length (spell_all ss)) was) used (sym count_is)) ∙ reads_back ss t.stands short in
      let ends : end_of (recited ss) ≡ end.Whole = ap (λ s. end_at None s [] (length (spell_all ss))) p.outside in
      let listing : listed (read_back (take used out)) ≡ lines Outside (placed 0 ss) ++ last_line
      = ap listed back ∙ ap (λ z. lines Outside (placed 0 ss) ++ (end_line z ++ (10 ∷ []))) ends in
      let small : 0 + length (spell_all ss) < 2 ^ 64 = omega arith in
      let sounds = spoken_sounds words_only (lines_of text) ss (lines_endless text) p.says in
      let spoken-again : spoken (lines_of (listed (read_back (take used out)))) ≡ map saying ss
      = ap (λ z. spoken (lines_of z)) listing ∙ listing_spoken ss Outside 0 sounds.clear small in
      let sounds-again = spoken_sounds words_only (lines_of (listed (read_back (take used out)))) ss (lines_endless (listed (read_back (take used out)))) spoken-again in
      let both : (t : List ℕ) → spoken (lines_of t) ≡ map saying ss → composed (length was) t ≡ record { written = ss; failed = None }
      = λ t e. ap (λ a. composed_in a (length was) t) asked ∙ composing_again (length was) (lines_of t) (idle [] 0) 0 ss e p.takes in
      record {
        statements = ss;
        says = p.says;
        count = count_is;
        bytes = bytes_are ∙ ap (λ k. spell_all ss ++ drop k was) (sym count_is);
        back = back;
        whole = ap end_of back ∙ ends;
        lawful = t.stands;
        short = t.short tt;
        few = t.few (omega arith);
        listing = sounds-again.same ∙ sym sounds.same;
        again = both (listed (read_back (take used out))) spoken-again ∙ sym (both text p.says);
      }

  makes_so : (f' : Option Failure) → f' ≡ all.failed → Makes (answering f' used) text was out
  makes_so None g = made_so (sym g)
  makes_so (Some x) g = tt

  pub finished : Finished f out used was text all
  finished = let g : f ≡ all.failed = ap (λ z. z.failed) e in record { failed = g; count = count_is; bytes = bytes_are; makes = makes_so f g }
