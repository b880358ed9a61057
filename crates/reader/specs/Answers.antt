-- What a reader answers.
use Rattle.std.specs.Prelude.{ℕ, Ok, Err, Result}
use Rattle.run.specs.declared.types.Life.{Life}
use Rattle.run.specs.declared.types.Life.TheVariants as life
use Rattle.run.specs.Faults.{number_of}
use Rattle.reader.specs.declared.answers.Refused.{Refused}
use Rattle.reader.specs.declared.answers.Refused.TheVariants.{Stream, Closed}

abbrev pub refused_number : Refused → ℕ
refused_number (Stream f) = number_of f.fault
refused_number Closed = 20

-- the answer to a feed that leaves this life: no feed closes a reader, so one that is closed was so before
abbrev pub feed_answer : Life → Result (Unit {0}) Refused
feed_answer life.Live = Ok tt
feed_answer life.Closed = Err Closed
feed_answer (life.Refused f) = Err (Stream f)

-- the answer to a finish that leaves this life
abbrev pub finish_answer : Life → Result (Unit {0}) Refused
finish_answer life.Live = Ok tt
finish_answer life.Closed = Ok tt
finish_answer (life.Refused f) = Err (Stream f)
