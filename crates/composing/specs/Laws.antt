-- What is promised of a description that is composed.
use Rattle.std.specs.Prelude.{◌≡◌, ℕ, ◌≤◌, cond, List, [], ◌∷◌, ◌++◌, map, length, take, drop, None, Ok, Err, Result}
use Rattle.statement.specs.declared.types.Standing.TheVariants.{Outside}
use Rattle.statement.specs.Statements.{Said}
use Rattle.walking.specs.declared.walker.End.TheVariants as end
use Rattle.spelling.specs.Laws.{spell_all, Stand, recited}
use Rattle.walking.specs.Stories.{end_of}
use Rattle.spelling.specs.Walking.{read_back}
use Rattle.listing.specs.Lines.{listed}
use Rattle.history.specs.Laws.{ShortBodies, defined}
use Rattle.composing.specs.declared.types.Failure.{Failure}
use Rattle.composing.specs.Lines.{Line, silent, unreadable, saying, lines_of, bare, is_silent, heard}
use Rattle.composing.specs.Composed.{composed}

-- what the lines say that say something
abbrev pub unless_silent : Line → List Line → List Line
unless_silent silent others = others
unless_silent unreadable others = unreadable ∷ others
unless_silent (saying s) others = saying s ∷ others

abbrev pub spoken : List (List ℕ) → List Line
spoken [] = []
spoken (l ∷ ls) = unless_silent (heard l) (spoken ls)

-- the words of the lines that say something
abbrev pub wordings : List (List ℕ) → List (List ℕ)
wordings [] = []
wordings (l ∷ ls) = cond (is_silent (bare l)) (wordings ls) (bare l ∷ wordings ls)

-- a text that made so many bytes: its lines say statements, and the bytes are their spellings over the front of the buffer;
-- they read back as these statements, to a whole stream that is never refused, and keep the limits on bodies and names;
-- their listing has the words of the text, line by line, and composes to the same again
pub record Made (text : List ℕ) (n : ℕ) (old new : List ℕ) : Type 0 where
  pub statements : List Said
  pub says : spoken (lines_of text) ≡ map saying statements
  pub count : n ≡ length (spell_all statements)
  pub bytes : new ≡ spell_all statements ++ drop n old
  pub back : read_back (take n new) ≡ recited statements
  pub whole : end_of (read_back (take n new)) ≡ end.Whole
  pub lawful : Stand Outside statements
  pub short : ShortBodies None statements
  pub few : length (defined [] statements) ≤ 32
  pub listing : wordings (lines_of (listed (read_back (take n new)))) ≡ wordings (lines_of text)
  pub again : composed (length old) (listed (read_back (take n new))) ≡ composed (length old) text

abbrev pub Makes : Result ℕ Failure → List ℕ → List ℕ → List ℕ → Type 0
Makes (Ok n) text old new = Made text n old new
Makes (Err f) text old new = Unit {0}
