use Rattle.std.proofs.Common.{◌≡◌, ◌-◌, [], map, length, vec_items}
use Rattle.walking.specs.Stories.{told_by, from_place}
use Rattle.walking.proofs.story.tell.Given as goal

-- what is left of the stream, after what was told, gives the whole
abbrev pub invariant-loop-placed : goal.invariant-loop-placed
invariant-loop-placed l =
    (l.walker.bytes.now ≡ l.initial.walker.bytes.now)
    × (from_place l.walker.standing l.walker.place l.initial.walker.bytes.now (map told_by (vec_items l.told))
    ≡ from_place l.initial.walker.standing l.initial.walker.place l.initial.walker.bytes.now [])

abbrev pub decreases-loop-placed : goal.decreases-loop-placed
decreases-loop-placed l = length l.walker.bytes.now - l.walker.place
