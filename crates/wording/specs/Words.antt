-- The words of a statement, and the statement whose words a line is.
use Rattle.std.specs.Prelude.{ℕ, List, [], ◌∷◌, ◌++◌, ℤ, Some, None, codes, Option}
use Rattle.statement.specs.declared.layout.Trace.TheVariants as trace
use Rattle.statement.specs.declared.layout.Aim.TheVariants as aim
use Rattle.statement.specs.declared.layout.Manner.TheVariants as manner
use Rattle.statement.specs.declared.layout.Setting.TheVariants as setting
use Rattle.statement.specs.declared.layout.Bare.TheVariants as bare
use Rattle.statement.specs.declared.layout.Layout.{Layout}
use Rattle.statement.specs.declared.layout.Layout.TheVariants as layout
use Rattle.statement.specs.declared.types.Header.{Header}
use Rattle.statement.specs.declared.types.Header.TheVariants as header
use Rattle.statement.specs.Statements.{CallTail, empty, coded, travel, letters, escape, assign, plain, call, Said, subhed, act, alone}
use Rattle.listing.specs.Lines.{name_of, argument_text}
use Rattle.wording.specs.Texts.{given, word, rest, behind, entry}
use Rattle.wording.specs.Numerals.{value_in, coordinate_in}
use Rattle.wording.specs.Quotes.{unquoted}

-- the name and the arguments of a statement, as its line has them
abbrev pub words : Said → List ℕ
words s = name_of s ++ argument_text s

-- the names of codes, and what follows each
abbrev pub bare_names : List (List ℕ × Layout)
bare_names =
    (codes "NULL", layout.Bare bare.Null) ∷ (codes "ERASE", layout.Bare bare.Erase) ∷ (codes "ENDPIC", layout.Bare bare.Endpic)
    ∷ (codes "SUBEND", layout.Bare bare.Subend) ∷ (codes "MARK", layout.Bare bare.Mark) ∷ (codes "MOVEMK", layout.Bare bare.Movemk)
    ∷ (codes "DRAWMK", layout.Bare bare.Drawmk) ∷ []

abbrev pub travel_names : List (List ℕ × Layout)
travel_names =
    (codes "MOVEA", layout.Pair trace.Blank aim.Absolute) ∷ (codes "MOVER", layout.Pair trace.Blank aim.Relative)
    ∷ (codes "DRAWA", layout.Pair trace.Line aim.Absolute) ∷ (codes "DRAWR", layout.Pair trace.Line aim.Relative)
    ∷ (codes "DOTA", layout.Pair trace.Dot aim.Absolute) ∷ (codes "DOTR", layout.Pair trace.Dot aim.Relative) ∷ []

abbrev pub other_names : List (List ℕ × Layout)
other_names =
    (codes "TEXT", layout.Text manner.Onward) ∷ (codes "TEXTR", layout.Text manner.Restoring) ∷ (codes "TEXTO", layout.Text manner.Wrapping)
    ∷ (codes "ESCDEV", layout.Escape) ∷ (codes "LINMOD", layout.Value setting.LineMode) ∷ (codes "SETINT", layout.Value setting.Intensity)
    ∷ (codes "SUBHED", layout.Heading) ∷ (codes "INSTS", layout.Calling) ∷ []

abbrev pub names : List (List ℕ × Layout)
names = bare_names ++ (travel_names ++ other_names)

abbrev pub headers : List (List ℕ × Header)
headers = (codes "80", header.Simple) ∷ (codes "40", header.Full) ∷ (codes "C0", header.Both) ∷ []

-- nothing may follow
abbrev pub ended : {A : Type 0} → A → List ℕ → Option A
ended a [] = Some a
ended a (c ∷ cs) = None

-- two coordinates, each after a space
abbrev pub second_in : ℤ → List ℕ → Option (ℤ × ℤ)
second_in x cs = given (behind (codes " ") cs) (λ t. given (coordinate_in t) (λ y. Some (x, y)))

abbrev pub first_in : List ℕ → Option (ℤ × ℤ)
first_in cs = given (coordinate_in (word cs)) (λ x. second_in x (rest cs))

abbrev pub pair_in : List ℕ → Option (ℤ × ℤ)
pair_in cs = given (behind (codes " ") cs) first_in

-- a string between quotes, after a space
abbrev pub string_in : List ℕ → Option (List ℕ)
string_in cs = given (behind (32 ∷ 34 ∷ []) cs) (λ q. given (unquoted q) (λ p. ended p.0 p.1))

-- the AT point of a tail
abbrev pub point_in : List ℕ → Option (ℤ × ℤ)
point_in cs = given (behind (codes " AT") cs) pair_in

-- the AT point, if there is one
abbrev pub at_in : List ℕ → Option (Option (ℤ × ℤ))
at_in [] = Some None
at_in (c ∷ cs) = given (point_in (c ∷ cs)) (λ p. Some (Some p))

-- the tail that has an AS name
abbrev pub as_tail : List ℕ × List ℕ → Option CallTail
as_tail p = given (at_in p.1) (λ at. Some (coded (Some p.0) at))

-- the tail that is a code byte alone, or begins with its AT point
abbrev pub bare_tail : List ℕ → Option (List ℕ) → Option CallTail
bare_tail cs (Some more) = ended (coded None None) more
bare_tail cs None = given (point_in cs) (λ p. Some (coded None (Some p)))

abbrev pub coded_tail : List ℕ → Option (List ℕ) → Option CallTail
coded_tail cs (Some q) = given (unquoted q) as_tail
coded_tail cs None = bare_tail cs (behind (codes " CODE") cs)

abbrev pub tail_in : List ℕ → Option CallTail
tail_in [] = Some empty
tail_in (c ∷ cs) = coded_tail (c ∷ cs) (behind (codes " AS " ++ (34 ∷ [])) (c ∷ cs))

-- the arguments of a statement of each kind
abbrev pub escape_in : List ℕ → Option Said
escape_in cs = given (value_in (word cs)) (λ v. given (string_in (rest cs)) (λ t. Some (act (plain (escape v t)))))

abbrev pub heading_in : List ℕ → Option Said
heading_in cs = given (behind (codes " ") (rest cs)) (λ t. given (entry headers t) (λ h. Some (subhed (word cs) h)))

abbrev pub call_in : List ℕ → Option Said
call_in cs = given (tail_in (rest cs)) (λ t. Some (act (call (word cs) t)))

abbrev pub arguments_in : Layout → List ℕ → Option Said
arguments_in (layout.Bare b) cs = ended (alone b) cs
arguments_in (layout.Pair t a) cs = given (pair_in cs) (λ p. Some (act (plain (travel t a p.0 p.1))))
arguments_in (layout.Text m) cs = given (string_in cs) (λ t. Some (act (plain (letters m t))))
arguments_in layout.Escape cs = given (behind (codes " ") cs) escape_in
arguments_in (layout.Value s) cs = given (behind (codes " ") cs) (λ t. given (value_in t) (λ v. Some (act (plain (assign s v)))))
arguments_in layout.Heading cs = given (behind (codes " ") cs) heading_in
arguments_in layout.Calling cs = given (behind (codes " ") cs) call_in

-- the statement whose words a line is, if it is that of one
unfoldable pub worded : List ℕ → Option Said
worded line = given (entry names (word line)) (λ l. arguments_in l (rest line))
