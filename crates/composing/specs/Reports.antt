-- The line that a failure is told by.
use Rattle.std.specs.Prelude.{ℕ, List, ◌++◌, codes, decimal}
use Rattle.writer.specs.Answers.{refusal_number}
use Rattle.composing.specs.declared.types.Failure.{Failure}
use Rattle.composing.specs.declared.types.Failure.TheVariants as failure

abbrev pub failure_text : Failure → List ℕ
failure_text (failure.Unreadable n) = codes "unreadable at line " ++ decimal n
failure_text (failure.Refused e n) = codes "refused under " ++ (decimal (refusal_number e) ++ (codes " at line " ++ decimal n))
failure_text (failure.Unfinished n) = codes "unfinished at line " ++ decimal n
