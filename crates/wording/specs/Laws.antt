-- The laws of words and statements.
use Rattle.std.specs.Prelude.{◌≡◌, ℕ, ◌<◌, List, ℤ, Some, None, Option, ◌≢◌}
use Rattle.std.specs.Int.Signed.{mag}
use Rattle.std.specs.List.{AllByRecursion}
use Rattle.statement.specs.Statements.{CallTail, empty, coded, Plain, null, travel, letters, escape, assign, mark, movemk, drawmk, Act, plain, call, Said, erase, endpic, subhed, subend, act}
use Rattle.spelling.specs.Spelling.{Lawful}
use Rattle.wording.specs.Words.{words, worded}

-- a line reads as a statement only if it is the words of that statement
abbrev pub WordsOnly : Type 0
WordsOnly = (line : List ℕ) (s : Said) → worded line ≡ Some s → words s ≡ line

abbrev pub AreBytes : List ℕ → Type 0
AreBytes bs = AllByRecursion (λ b. b < 256) bs

-- from -32768 to 32767
abbrev pub Is16Bits : ℤ → Type 0
Is16Bits z = mag z < 32768

abbrev pub Spaceless : List ℕ → Type 0
Spaceless n = AllByRecursion (λ c. c ≢ 32) n

abbrev pub AsWordable : Option (List ℕ) → Type 0
AsWordable None = Unit {0}
AsWordable (Some n) = AreBytes n

abbrev pub AtWordable : Option (ℤ × ℤ) → Type 0
AtWordable None = Unit {0}
AtWordable (Some p) = Is16Bits p.0 × Is16Bits p.1

abbrev pub TailWordable : CallTail → Type 0
TailWordable empty = Unit {0}
TailWordable (coded a p) = AsWordable a × AtWordable p

abbrev pub PlainWordable : Plain → Type 0
PlainWordable null = Unit {0}
PlainWordable (travel t a x y) = Is16Bits x × Is16Bits y
PlainWordable (letters m t) = AreBytes t
PlainWordable (escape v t) = (v < 256) × AreBytes t
PlainWordable (assign s v) = v < 256
PlainWordable mark = Unit {0}
PlainWordable movemk = Unit {0}
PlainWordable drawmk = Unit {0}

abbrev pub ActWordable : Act → Type 0
ActWordable (plain p) = PlainWordable p
ActWordable (call n t) = Spaceless n × TailWordable t

-- values and strings are of bytes, coordinates of 16 bits, and no name of a definition has a space
abbrev pub Wordable : Said → Type 0
Wordable erase = Unit {0}
Wordable endpic = Unit {0}
Wordable (subhed n h) = Spaceless n
Wordable subend = Unit {0}
Wordable (act a) = ActWordable a

-- the words of such a statement read as that statement, lawful or not
abbrev pub WordsRead : Type 0
WordsRead = (s : Said) → Wordable s → worded (words s) ≡ Some s

abbrev pub PlainInBytes : Plain → Type 0
PlainInBytes null = Unit {0}
PlainInBytes (travel t a x y) = Unit {0}
PlainInBytes (letters m t) = Unit {0}
PlainInBytes (escape v t) = (v < 256) × AreBytes t
PlainInBytes (assign s v) = v < 256
PlainInBytes mark = Unit {0}
PlainInBytes movemk = Unit {0}
PlainInBytes drawmk = Unit {0}

abbrev pub ActInBytes : Act → Type 0
ActInBytes (plain p) = PlainInBytes p
ActInBytes (call n t) = Unit {0}

-- a value, and what stands in the string of an escape, is a byte
abbrev pub InBytes : Said → Type 0
InBytes erase = Unit {0}
InBytes endpic = Unit {0}
InBytes (subhed n h) = Unit {0}
InBytes subend = Unit {0}
InBytes (act a) = ActInBytes a

-- the words of a lawful statement read as that statement
abbrev pub LawfulRead : Type 0
LawfulRead = (s : Said) → Lawful s → InBytes s → worded (words s) ≡ Some s

-- no two lawful statements have the same words
abbrev pub LawfulApart : Type 0
LawfulApart = (s t : Said) → Lawful s → InBytes s → Lawful t → InBytes t → words s ≡ words t → s ≡ t
