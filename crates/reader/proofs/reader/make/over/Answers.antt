use Rattle.std.proofs.Common.{◌≡◌, ℕ, List, [], ap, ◌∙◌}
use Rattle.sheet.specs.Meanings.{Meaning}
use Rattle.run.specs.declared.types.Life.TheVariants.{Live}
use Rattle.run.specs.Inks.{Ink}
use Rattle.run.specs.Performing.{Entry}
use Rattle.run.specs.Runs.{Config, outside, begun}
use Rattle.pen.specs.Views.{ink_of}
use Rattle.calls.specs.Tables.{entries_of}
use Rattle.reader.specs.Held.{bytes_held}
use Rattle.reader.proofs.reader.make.over.Goals as goal

-- a new reader with these bytes held, this ink and these entries
abbrev new_with : List ℕ → Ink → List Entry → Config
new_with h i T = record { drawing = record { life = Live; held = h; stance = outside; pictures = 0; ink = i; table = T }; read = 0; count = 0 }

new_is : (m : Meaning) (h : List ℕ) (i : Ink) (T : List Entry) → h ≡ [] → i ≡ (begun m).drawing.ink → T ≡ [] → new_with h i T ≡ begun m
new_is m h i T d e f = ap (λ z. new_with z i T) d ∙ ap (λ z. new_with [] z T) e ∙ ap (new_with [] (begun m).drawing.ink) f

pub returns : goal.returns
returns c m =
    new_is m (bytes_held c.none.result) (ink_of c.new.result m) (entries_of c.args.table) c.none.ensures (c.new.ensures m) c.requires
