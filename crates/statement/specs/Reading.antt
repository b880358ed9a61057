-- What the bytes of a statement so far are: more is wanted, refused, or a whole statement.
use Rattle.std.specs.Prelude.{ℕ, ◌+◌, ◌-◌, ◌*◌, Bool, true, false, cond, ◌&&◌, ◌||◌, List, [], ◌∷◌, length, take, drop, ℤ, pos, negsuc, Some, None, Option, ◌==◌, int_le, nat_le, nat_lt}
use Rattle.std.specs.Int.{w16}
use Rattle.std.specs.List.{list_all}
use Rattle.std.proofs.Common.{to_z}
use Rattle.statement.specs.declared.layout.Trace.{Trace}
use Rattle.statement.specs.declared.layout.Aim.{Aim}
use Rattle.statement.specs.declared.layout.Aim.TheVariants as aim
use Rattle.statement.specs.declared.layout.Manner.{Manner}
use Rattle.statement.specs.declared.layout.Setting.{Setting}
use Rattle.statement.specs.declared.layout.Layout.{Layout}
use Rattle.statement.specs.declared.layout.Layout.TheVariants as layout
use Rattle.statement.specs.declared.types.Fault.{Fault}
use Rattle.statement.specs.declared.types.Fault.TheVariants as fault
use Rattle.statement.specs.declared.types.Header.{Header}
use Rattle.statement.specs.declared.types.Header.TheVariants as header
use Rattle.statement.specs.declared.types.Standing.{Standing}
use Rattle.statement.specs.Statements.{CallTail, empty, coded, travel, letters, escape, assign, plain, call, Said, subhed, act, alone, layout_of, allowed}

pub data Shape : Type 0 where
  more : Shape
  refused : Fault → Shape
  whole : Said → Shape

-- what stands at the front of the bytes: more is wanted, something wrong, or a thing found, with the bytes after it
pub data Front (A : Type 0) : Type 0 where
  wanting : Front A
  wrong : Fault → Front A
  found : A → List ℕ → Front A

abbrev pub onto : {A : Type 0} → Front A → (A → List ℕ → Shape) → Shape
onto wanting k = more
onto (wrong f) k = refused f
onto (found a rest) k = k a rest

-- a count of two bytes is at least 128
abbrev pub long_count : ℕ → List ℕ → Front ℕ
long_count h [] = wanting
long_count h (l ∷ rest) = cond (nat_lt ((h - 128) * 256 + l) 128) (wrong fault.ShortCount) (found ((h - 128) * 256 + l) rest)

abbrev pub count : List ℕ → Front ℕ
count [] = wanting
count (n ∷ rest) = cond (nat_lt n 128) (found n rest) (long_count n rest)

-- as many bytes as were counted, if they are no more than the limit
abbrev pub measured : ℕ → Front ℕ → Front (List ℕ)
measured limit wanting = wanting
measured limit (wrong f) = wrong f
measured limit (found n rest) = cond (nat_lt limit n) (wrong fault.TooLong) (cond (nat_lt (length rest) n) wanting (found (take n rest) (drop n rest)))

abbrev pub string : ℕ → List ℕ → Front (List ℕ)
string limit bs = measured limit (count bs)

-- two bytes, the high one first, in two's complement
abbrev pub coordinate : ℕ → ℕ → ℤ
coordinate h l = to_z w16 (h * 256 + l)

-- absolute coordinates lie on the screen; a delta is any number but -32768
abbrev pub lawful : Aim → ℤ → Bool
lawful aim.Absolute v = int_le (negsuc 16383) v && int_le v (pos 16383)
lawful aim.Relative v = int_le (negsuc 32766) v && int_le v (pos 32767)

abbrev pub travelled : Trace → Aim → ℤ → ℤ → Shape
travelled t a x y = cond (lawful a x && lawful a y) (whole (act (plain (travel t a x y)))) (refused fault.WrongCoordinate)

abbrev pub pair : Trace → Aim → List ℕ → Shape
pair t a [] = more
pair t a (b ∷ []) = more
pair t a (b ∷ c ∷ []) = more
pair t a (b ∷ c ∷ d ∷ []) = more
pair t a (b ∷ c ∷ d ∷ e ∷ rest) = travelled t a (coordinate b c) (coordinate d e)

-- text codes are at most 127
abbrev pub is_text : List ℕ → Bool
is_text bs = list_all (λ b. nat_le b 127) bs

abbrev pub texted : Manner → List ℕ → List ℕ → Shape
texted m t rest = cond (is_text t) (whole (act (plain (letters m t)))) (refused fault.WrongCharacter)

abbrev pub escaped : ℕ → List ℕ → List ℕ → Shape
escaped v t rest = whole (act (plain (escape v t)))

abbrev pub escaping : List ℕ → Shape
escaping [] = more
escaping (v ∷ rest) = onto (string 512 rest) (escaped v)

abbrev pub setting : Setting → List ℕ → Shape
setting s [] = more
setting s (v ∷ rest) = whole (act (plain (assign s v)))

-- a capital letter or a digit
abbrev pub is_name_code : ℕ → Bool
is_name_code c = (nat_le 65 c && nat_le c 90) || (nat_le 48 c && nat_le c 57)

abbrev pub are_name_codes : List ℕ → Bool
are_name_codes cs = list_all is_name_code cs

-- a name has at least one character
abbrev pub is_name : List ℕ → Bool
is_name [] = false
is_name (c ∷ cs) = are_name_codes (c ∷ cs)

abbrev pub header_of : ℕ → Option Header
header_of h = cond (h == 0x80) (Some header.Simple) (cond (h == 0x40) (Some header.Full) (cond (h == 0xC0) (Some header.Both) None))

-- the byte of a header
abbrev pub header_byte : Header → ℕ
header_byte header.Simple = 0x80
header_byte header.Full = 0x40
header_byte header.Both = 0xC0

abbrev pub titled : List ℕ → Option Header → Shape
titled n None = refused fault.WrongLayout
titled n (Some h) = cond (is_name n) (whole (subhed n h)) (refused fault.WrongCharacter)

abbrev pub headed : List ℕ → List ℕ → Shape
headed n [] = more
headed n (h ∷ rest) = titled n (header_of h)

-- after the name of a definition: the byte 1, then the header
abbrev pub heading : List ℕ → List ℕ → Shape
heading n [] = more
heading n (b ∷ rest) = cond (b == 1) (headed n rest) (refused fault.WrongLayout)

-- the AT point, if the code byte says so, ends the tail
abbrev pub tail_at : Option (List ℕ) → List ℕ → Option CallTail
tail_at a [] = None
tail_at a (b ∷ []) = None
tail_at a (b ∷ c ∷ []) = None
tail_at a (b ∷ c ∷ d ∷ []) = None
tail_at a (b ∷ c ∷ d ∷ e ∷ []) = Some (coded a (Some (coordinate b c, coordinate d e)))
tail_at a (b ∷ c ∷ d ∷ e ∷ f ∷ rest) = None

abbrev pub tail_end : Option (List ℕ) → List ℕ → Option CallTail
tail_end a [] = Some (coded a None)
tail_end a (b ∷ rest) = None

-- an AS name has a count of one byte, at most 8
abbrev pub tail_as : (Option (List ℕ) → List ℕ → Option CallTail) → List ℕ → Option CallTail
tail_as k [] = None
tail_as k (n ∷ rest) = cond (nat_le n 8 && nat_le n (length rest)) (k (Some (take n rest)) (drop n rest)) None

-- the code byte: hex 80 for an AS name, hex 40 for an AT point, other bits 0
abbrev pub coded_tail : ℕ → List ℕ → Option CallTail
coded_tail c rest =
    cond (c == 0x00) (tail_end None rest)
    (cond (c == 0x40) (tail_at None rest)
    (cond (c == 0x80) (tail_as tail_end rest)
    (cond (c == 0xC0) (tail_as tail_at rest) None)))

-- a tail that fits its bytes exactly
abbrev pub tail_of : List ℕ → Option CallTail
tail_of [] = Some empty
tail_of (c ∷ rest) = coded_tail c rest

abbrev pub lawful_at : Option (ℤ × ℤ) → Bool
lawful_at None = true
lawful_at (Some p) = lawful aim.Absolute p.0 && lawful aim.Absolute p.1

abbrev pub lawful_tail : CallTail → Bool
lawful_tail empty = true
lawful_tail (coded a p) = lawful_at p

abbrev pub is_as_name : Option (List ℕ) → Bool
is_as_name None = true
is_as_name (Some n) = are_name_codes n

abbrev pub named_tail : CallTail → Bool
named_tail empty = true
named_tail (coded a p) = is_as_name a

abbrev pub tailed : List ℕ → Option CallTail → Shape
tailed n None = refused fault.WrongLayout
tailed n (Some t) =
    cond (lawful_tail t) (cond (is_name n && named_tail t) (whole (act (call n t))) (refused fault.WrongCharacter)) (refused fault.WrongCoordinate)

-- after the name of a call: the tail's length, at most 14, and as many bytes
abbrev pub calling : List ℕ → List ℕ → Shape
calling n [] = more
calling n (t ∷ rest) = cond (nat_lt 14 t) (refused fault.WrongLayout) (cond (nat_lt (length rest) t) more (tailed n (tail_of (take t rest))))

abbrev pub arguments : Layout → List ℕ → Shape
arguments (layout.Bare b) rest = whole (alone b)
arguments (layout.Pair t a) rest = pair t a rest
arguments (layout.Text m) rest = onto (string 512 rest) (texted m)
arguments layout.Escape rest = escaping rest
arguments (layout.Value s) rest = setting s rest
arguments layout.Heading rest = onto (string 8 rest) heading
arguments layout.Calling rest = onto (string 8 rest) calling

-- the code is looked at first, then whether it may come here
abbrev pub admitted : Bool → Option Layout → List ℕ → Shape
admitted ok None rest = refused fault.UnknownCode
admitted true (Some l) rest = arguments l rest
admitted false (Some l) rest = refused fault.Misplaced

-- what the bytes so far are of a statement that begins where one stands so
abbrev pub reading : Standing → List ℕ → Shape
reading st [] = more
reading st (c ∷ rest) = admitted (allowed st c) (layout_of c) rest
