-- A line of text for each statement of a stream, and one for how the stream ends.
use Rattle.std.specs.Prelude.{ℕ, ◌+◌, ◌/◌, ◌%◌, Bool, cond, not, ◌&&◌, List, [], ◌∷◌, ◌++◌, ℤ, Some, None, codes, decimal, Option, ◌==◌, nat_le, nat_lt}
use Rattle.std.specs.List.{flat_map}
use Rattle.std.specs.Fmt.{signed_decimal}
use Rattle.statement.specs.declared.layout.Trace.{Trace}
use Rattle.statement.specs.declared.layout.Trace.TheVariants as trace
use Rattle.statement.specs.declared.layout.Aim.{Aim}
use Rattle.statement.specs.declared.layout.Aim.TheVariants as aim
use Rattle.statement.specs.declared.layout.Manner.{Manner}
use Rattle.statement.specs.declared.layout.Manner.TheVariants as manner
use Rattle.statement.specs.declared.layout.Setting.{Setting}
use Rattle.statement.specs.declared.layout.Setting.TheVariants as setting
use Rattle.statement.specs.declared.types.Header.{Header}
use Rattle.statement.specs.declared.types.Header.TheVariants as header
use Rattle.statement.specs.declared.types.Standing.{Standing}
use Rattle.statement.specs.declared.types.Standing.TheVariants.{Outside, Picture, Definition}
use Rattle.statement.specs.Statements.{CallTail, empty, coded, Plain, null, travel, letters, escape, assign, mark, movemk, drawmk, Act, plain, call, Said, erase, endpic, subhed, subend, act, onwards}
use Rattle.statement.specs.Views.{fault_number}
use Rattle.walking.specs.declared.walker.End.{End}
use Rattle.walking.specs.declared.walker.End.TheVariants as end
use Rattle.walking.specs.Stories.{end_of}
use Rattle.spelling.specs.Walking.{Told, Walk}

-- a digit of base 16, in small letters
abbrev pub hex_digit : ℕ → ℕ
hex_digit d = cond (nat_lt d 10) (48 + d) (87 + d)

-- what stands between quotes as itself: 32 to 126, but no quote and no backslash
abbrev pub is_plain : ℕ → Bool
is_plain b = (nat_le 32 b && nat_le b 126) && (not (b == 34) && not (b == 92))

-- any other byte is a backslash, an x and two digits of base 16
abbrev pub quoted_byte : ℕ → List ℕ
quoted_byte b = cond (is_plain b) (b ∷ []) (92 ∷ 120 ∷ hex_digit (b / 16) ∷ hex_digit (b % 16) ∷ [])

abbrev pub quoted : List ℕ → List ℕ
quoted bs = 34 ∷ (flat_map quoted_byte bs ++ (34 ∷ []))

abbrev pub travel_name : Trace → Aim → List ℕ
travel_name trace.Blank aim.Absolute = codes "MOVEA"
travel_name trace.Blank aim.Relative = codes "MOVER"
travel_name trace.Line aim.Absolute = codes "DRAWA"
travel_name trace.Line aim.Relative = codes "DRAWR"
travel_name trace.Dot aim.Absolute = codes "DOTA"
travel_name trace.Dot aim.Relative = codes "DOTR"

abbrev pub letters_name : Manner → List ℕ
letters_name manner.Onward = codes "TEXT"
letters_name manner.Restoring = codes "TEXTR"
letters_name manner.Wrapping = codes "TEXTO"

abbrev pub setting_name : Setting → List ℕ
setting_name setting.LineMode = codes "LINMOD"
setting_name setting.Intensity = codes "SETINT"

abbrev pub plain_name : Plain → List ℕ
plain_name null = codes "NULL"
plain_name (travel t a x y) = travel_name t a
plain_name (letters m t) = letters_name m
plain_name (escape v t) = codes "ESCDEV"
plain_name (assign s v) = setting_name s
plain_name mark = codes "MARK"
plain_name movemk = codes "MOVEMK"
plain_name drawmk = codes "DRAWMK"

abbrev pub act_name : Act → List ℕ
act_name (plain p) = plain_name p
act_name (call n t) = codes "INSTS"

abbrev pub name_of : Said → List ℕ
name_of erase = codes "ERASE"
name_of endpic = codes "ENDPIC"
name_of (subhed n h) = codes "SUBHED"
name_of subend = codes "SUBEND"
name_of (act a) = act_name a

-- each argument comes after a space
abbrev pub pair_text : ℤ → ℤ → List ℕ
pair_text x y = 32 ∷ (signed_decimal x ++ (32 ∷ signed_decimal y))

abbrev pub header_text : Header → List ℕ
header_text header.Simple = codes "80"
header_text header.Full = codes "40"
header_text header.Both = codes "C0"

abbrev pub as_text : Option (List ℕ) → List ℕ
as_text None = []
as_text (Some n) = codes " AS " ++ quoted n

abbrev pub at_text : Option (ℤ × ℤ) → List ℕ
at_text None = []
at_text (Some p) = codes " AT" ++ pair_text p.0 p.1

-- a code byte with nothing after it is said by a word of its own
abbrev pub tail_text : CallTail → List ℕ
tail_text empty = []
tail_text (coded None None) = codes " CODE"
tail_text (coded None (Some p)) = at_text (Some p)
tail_text (coded (Some n) p) = as_text (Some n) ++ at_text p

abbrev pub plain_text : Plain → List ℕ
plain_text null = []
plain_text (travel t a x y) = pair_text x y
plain_text (letters m t) = 32 ∷ quoted t
plain_text (escape v t) = 32 ∷ (decimal v ++ (32 ∷ quoted t))
plain_text (assign s v) = 32 ∷ decimal v
plain_text mark = []
plain_text movemk = []
plain_text drawmk = []

abbrev pub act_text : Act → List ℕ
act_text (plain p) = plain_text p
act_text (call n t) = 32 ∷ (n ++ tail_text t)

abbrev pub argument_text : Said → List ℕ
argument_text erase = []
argument_text endpic = []
argument_text (subhed n h) = 32 ∷ (n ++ (32 ∷ header_text h))
argument_text subend = []
argument_text (act a) = act_text a

-- what stands in a definition is set in, up to its end
abbrev pub indent : Standing → Said → List ℕ
indent Outside s = []
indent Picture s = []
indent (Definition h) erase = codes "  "
indent (Definition h) endpic = codes "  "
indent (Definition h) (subhed n k) = codes "  "
indent (Definition h) subend = []
indent (Definition h) (act a) = codes "  "

-- the place, the name and the arguments
abbrev pub line_of : Standing → Told → List ℕ
line_of st t = decimal t.place ++ (32 ∷ (indent st t.said ++ (name_of t.said ++ argument_text t.said)))

abbrev pub end_line : End → List ℕ
end_line end.Whole = codes "whole"
end_line (end.Unfinished p) = codes "unfinished at " ++ decimal p
end_line (end.Refused f p) = codes "refused under " ++ (decimal (fault_number f) ++ (codes " at " ++ decimal p))

-- the lines of statements that begin where one stands so
abbrev pub lines : Standing → List Told → List ℕ
lines st [] = []
lines st (t ∷ ts) = line_of st t ++ (10 ∷ lines (onwards st t.said) ts)

abbrev pub listed : Walk → List ℕ
listed w = lines Outside w.told ++ (end_line (end_of w) ++ (10 ∷ []))
