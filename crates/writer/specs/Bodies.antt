-- Where the body of a definition begins, and how long it is.
use Rattle.std.specs.Prelude.{ℕ, ◌+◌, ◌-◌, Bool, true, nat_le}
use Rattle.writer.specs.declared.types.Opened.{Opened}
use Rattle.writer.specs.declared.types.Opened.TheVariants.{Picture, Definition}

abbrev pub body_start : Opened → ℕ
body_start Picture = 0
body_start (Definition at) = at

-- whether a body, if one is open, stays within 1,024 bytes with so many more
abbrev pub stays_short : Opened → ℕ → ℕ → Bool
stays_short Picture used n = true
stays_short (Definition at) used n = nat_le (used - at + n) 1024
