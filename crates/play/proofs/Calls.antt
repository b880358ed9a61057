-- Calls answered one after the other.
use Rattle.std.proofs.Common.{◌≡◌, ◌<◌, List, [], ◌∷◌, fold, refl}
use Rattle.std.specs.List.{AllByRecursion}
use Rattle.std.proofs.ByRecursion.{All-append}
use Rattle.run.specs.Runs.{Config}
use Rattle.run.specs.Cuttings.{answering, stream}
use Rattle.play.specs.declared.list.Call.{Call as Asked}
use Rattle.play.specs.declared.list.Call.TheVariants as asked
use Rattle.play.specs.Plays.{call_of, calls_of, HasBytes}

-- after one call more of the code's
abbrev pub answering_of : Config → Asked → Config
answering_of c k = answering c (call_of k)

pub folded_calls : (c : Config) (ks : List Asked) → fold answering_of c ks ≡ fold answering c (calls_of ks)
folded_calls c [] = refl
folded_calls c (k ∷ ks) = folded_calls (answering_of c k) ks

pub stream_bytes : (ks : List Asked) → AllByRecursion (λ k. HasBytes (call_of k)) ks → AllByRecursion (λ b. b < 256) (stream (calls_of ks))
stream_bytes [] h = tt
stream_bytes (asked.Feed p ∷ ks) h = All-append (λ b. b < 256) p.now (stream (calls_of ks)) h.0 (stream_bytes ks h.1)
stream_bytes (asked.Finish ∷ ks) h = tt
stream_bytes (asked.Report ∷ ks) h = stream_bytes ks h.1
