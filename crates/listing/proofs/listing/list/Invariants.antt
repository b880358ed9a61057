use Rattle.std.proofs.Common.{◌≡◌, ◌-◌, List, length, vec_items}
use Rattle.statement.specs.declared.types.Standing.TheVariants.{Outside}
use Rattle.walking.specs.Stories.{from_place}
use Rattle.spelling.specs.Walking.{Told, read_back}
use Rattle.listing.specs.Lines.{lines}
use Rattle.listing.proofs.Listed.{after}
use Rattle.listing.proofs.listing.list.Given as goal

-- the statements told so far have their lines, and what is left of the stream gives the whole
abbrev pub invariant-loop-placed : goal.invariant-loop-placed
invariant-loop-placed l =
    (l.walker.bytes.now ≡ l.bytes)
    × ((ts : List Told)
    × (from_place l.walker.standing l.walker.place l.bytes ts ≡ read_back l.bytes)
    × (l.walker.standing ≡ after Outside ts)
    × (vec_items l.out ≡ lines Outside ts))

abbrev pub decreases-loop-placed : goal.decreases-loop-placed
decreases-loop-placed l = length l.walker.bytes.now - l.walker.place
